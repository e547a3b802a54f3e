use Rattle.event_rings.proofs.RuleLemmas.{begins}
use Rattle.event_rings.proofs.making.ring_with.Goals as goal

pub ruled-requires-clause-rule : goal.ruled-requires-clause-rule
ruled-requires-clause-rule g c = begins _
