use Rattle.engine_steps.proofs.StepLemmas.{block_sent_in_step}
use Rattle.engine_steps.proofs.laws.a_sent_block_keeps_an_engine_in_step.Goals as goal

pub returns : goal.returns
returns c = block_sent_in_step
