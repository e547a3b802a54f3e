use Rattle.live_steps.proofs.StepLemmas.{new_in_step}
use Rattle.live_steps.proofs.laws.engine_and_rings_begin_in_step.Goals as goal

pub returns : goal.returns
returns c = new_in_step
