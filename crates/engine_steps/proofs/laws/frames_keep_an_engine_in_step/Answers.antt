use Rattle.engine_steps.proofs.StepLemmas.{went_on_in_step}
use Rattle.engine_steps.proofs.laws.frames_keep_an_engine_in_step.Goals as goal

pub returns : goal.returns
returns c = went_on_in_step
