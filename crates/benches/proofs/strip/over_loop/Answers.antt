use Rattle.std.proofs.Common.{arith, ◌≡◌, ap, ◌∙◌}
use Rattle.loop_tape.specs.Pools.{PoolOf}
use Rattle.benches.proofs.strip.over_loop.Goals as goal

pub all-requires-clause-owns : goal.all-requires-clause-owns
all-requires-clause-owns c =
    let chunks : c.fill.new.self.all ≡ 512 = ap (λ (p : PoolOf). p.all) c.fill.ensures
    ∙ c.in-Ok.ensures.all in
    c.in-Ok-new.ensures.owns c.fill.new.self (omega (arith, chunks))
