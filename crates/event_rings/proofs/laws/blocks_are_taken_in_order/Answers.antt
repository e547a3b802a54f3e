use Rattle.event_rings.proofs.BlockLemmas.{all_follow}
use Rattle.event_rings.proofs.laws.blocks_are_taken_in_order.Goals as goal

pub returns : goal.returns
returns c = all_follow _ _ _ c.taken_in_order.ensures.order
