use Rattle.ring_world.proofs.RunLemmas.{steps_keep}
use Rattle.ring_world.proofs.laws.every_list_of_steps_keeps_a_world_in_step.Goals as goal

pub returns : goal.returns
returns c = steps_keep
