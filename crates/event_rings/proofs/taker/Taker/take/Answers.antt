use Rattle.std.proofs.Common.{◌∙◌}
use Rattle.event_rings.proofs.RuleLemmas.{takes, take_learns, taker_more}
use Rattle.event_rings.proofs.taker.Taker.take.Goals as goal

pub pop_as-requires-clause-rule : goal.pop_as-requires-clause-rule
pop_as-requires-clause-rule g c = let taker = c.self.invariant.1 in
    (takes _ _ _ taker.takes, take_learns _ _ _ taker.takes)

pub invariant_of-self : goal.invariant_of-self
invariant_of-self g c =
    let told = c.in-Some.ensures in (
      (told.queue.0 ∙ c.self.invariant.0.0, told.queue.2 ∙ c.self.invariant.0.1),
      taker_more _ _ _ _ c.self.invariant.1 told.rule,
    )
