use Rattle.event_rings.proofs.RuleLemmas.{ring-put}
use Rattle.event_rings.proofs.laws.a_put_leaves_a_ring.Goals as goal

pub returns : goal.returns
returns g c = ring-put _
