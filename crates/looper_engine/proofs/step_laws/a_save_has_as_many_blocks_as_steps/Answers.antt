use Rattle.looper_engine.proofs.StepLemmas.{length-blocks_of}
use Rattle.looper_engine.proofs.step_laws.a_save_has_as_many_blocks_as_steps.Goals as goal

pub returns : goal.returns
returns c = length-blocks_of
