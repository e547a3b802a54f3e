use Rattle.engine_steps.proofs.ReachedLemmas.{lists_held}
use Rattle.engine_steps.proofs.laws.the_lists_of_waiting_saves_are_pinned.Goals as goal

pub returns : goal.returns
returns c = lists_held
