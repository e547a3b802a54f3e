use Rattle.ring_world.proofs.KeepLemmas.{step_keeps}
use Rattle.ring_world.proofs.laws.each_step_keeps_a_world_in_step.Goals as goal

pub returns : goal.returns
returns c = step_keeps
