use Rattle.engine_steps.proofs.StepLemmas.{took_in_step}
use Rattle.engine_steps.proofs.laws.a_taken_entry_keeps_an_engine_in_step.Goals as goal

pub returns : goal.returns
returns c = took_in_step
