use Rattle.std.proofs.Common.{arith, length, refl, sym, ap}
use Rattle.loop_tape.proofs.PoolLemmas.{part_filled}
use Rattle.loop_tape.proofs.pool.Pool.frames.Goals as goal

pub slice_bounds-result-end : goal.slice_bounds-result-end
slice_bounds-result-end c =
    let taken = rw (sym c.self.view_is) at c.requires.taken in
    let within = part_filled _ c.self.inside.store.items c.self.inside.given.items
    c.self.inside.begun c.args.slot c.args.count taken c.self.invariant.holds refl
    c.requires.within in
    omega (arith, within, ap length c.deref.ensures.value)
