use Rattle.engine_steps.proofs.ReachedLemmas.{waiting_apart}
use Rattle.engine_steps.proofs.laws.waiting_saves_are_of_different_loops.Goals as goal

pub returns : goal.returns
returns c = waiting_apart
