-- The steps that are left may be done, and lead to where all do.
use Rattle.std.proofs.Common.{◌≡◌, drop}
use Rattle.ring_world.specs.Running.{ran, MayDoAll}
use Rattle.ring_world.proofs.drilling.do_all.Given as goal

abbrev pub invariant-loop-index : goal.invariant-loop-index
invariant-loop-index l =
    MayDoAll (drop l.index l.steps) l.world.number l.world.lists
    × (ran (drop l.index l.steps) l.world.number l.world.lists
    ≡ ran l.steps l.fn.world.number l.fn.world.lists)
    × (l.world.number ≡ l.fn.world.number)
