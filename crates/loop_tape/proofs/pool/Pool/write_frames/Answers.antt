use Rattle.std.proofs.Common.{arith, length, refl, sym, ap}
use Rattle.loop_tape.proofs.PoolLemmas.{part_filled}
use Rattle.loop_tape.proofs.pool.Pool.write_frames.Goals as goal

pub slice_bounds-copy_from_slice-end : goal.slice_bounds-copy_from_slice-end
slice_bounds-copy_from_slice-end c =
    let taken = rw (sym c.self.view_is) at c.requires.taken in
    let within = part_filled _ c.self.inside.store.items c.self.inside.given.items
    c.self.inside.begun c.args.slot (length c.args.frames.now) taken c.self.invariant.holds refl
    c.requires.within in
    omega (arith, within, ap length c.deref_mut.ensures.value)
