use Rattle.event_rings.proofs.RuleLemmas.{makes}
use Rattle.event_rings.proofs.making.parted.Goals as goal

pub another-requires-clause-rule : goal.another-requires-clause-rule
another-requires-clause-rule g c = makes _ _ _ _ _ _ c.requires.new
