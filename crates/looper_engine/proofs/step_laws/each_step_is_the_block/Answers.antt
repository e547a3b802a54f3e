use Rattle.looper_engine.proofs.StepLemmas.{block_at}
use Rattle.looper_engine.proofs.step_laws.each_step_is_the_block.Goals as goal

pub returns : goal.returns
returns c = block_at
