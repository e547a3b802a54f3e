use Rattle.std.proofs.Common.{ap}
use Rattle.event_rings.proofs.RuleLemmas.{meets, both_learn}
use Rattle.event_rings.proofs.met.meet.Goals as goal

pub absorb-requires-clause-rule : goal.absorb-requires-clause-rule
absorb-requires-clause-rule g c =
    meets _ _ _ _ _ c.taker.invariant.1.takes c.putter.invariant.1.puts

pub learn_as-requires-clause-rule : goal.learn_as-requires-clause-rule
learn_as-requires-clause-rule g c =
    let both = c.absorb.ensures.rule in
    both_learn _ _ _ (ap (λ v. v.puts) both) (ap (λ v. v.takes) both)
