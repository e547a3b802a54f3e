use Rattle.ring_world.proofs.KeepLemmas.{begins_in_step}
use Rattle.ring_world.proofs.laws.a_world_begins_in_step.Goals as goal

pub returns : goal.returns
returns c = begins_in_step
