use Rattle.event_rings.proofs.RuleLemmas.{ring-take, ring-next}
use Rattle.event_rings.proofs.laws.a_take_leaves_a_ring.Goals as goal

pub returns-clause-ring : goal.returns-clause-ring
returns-clause-ring g c = ring-take _

pub returns-clause-next : goal.returns-clause-next
returns-clause-next g c = ring-next _
