use Rattle.std.proofs.Common.{sym}
use Rattle.loop_tape.proofs.PoolLemmas.{held_pool}
use Rattle.loop_tape.proofs.pool.Pool.facts.Goals as goal

pub returns-clause-pool : goal.returns-clause-pool
returns-clause-pool c =
    rw (sym c.self.view_is) (held_pool c.self.inside.store.items c.self.inside.given.items
    c.self.inside.begun c.self.inside.all c.self.invariant.holds)
