use Rattle.event_rings.proofs.RuleLemmas.{drains, both_learn}
use Rattle.event_rings.proofs.met.Met.drain.Goals as goal

pub pop_as-requires-clause-rule : goal.pop_as-requires-clause-rule
pop_as-requires-clause-rule g c =
    let both = c.self.invariant.1 in
    (drains _ _ _ both.puts both.takes, both_learn _ _ _ both.puts both.takes)
