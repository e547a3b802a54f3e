use Rattle.std.proofs.Common.{w32}
use Rattle.std.proofs.lemmas.Int.{to_z-of_z}
use Rattle.looper_tracks.proofs.SweepLemmas.{sweeping_alone, sweeping_all}
use Rattle.looper_tracks.proofs.sweep.set_all.Goals as goal

pub loop-k-preserved : goal.loop-k-preserved
loop-k-preserved c =
    sweeping_alone _ _ _ _ _ _ _ c.loop-k.invariant c.loop-k-test.true c.set.ensures

pub returns : goal.returns
returns c =
    rw (to_z-of_z w32 c.args.value c.ranges.value) at
    (sweeping_all _ _ _ _ _ _ c.loop-k.invariant c.loop-k-test.false)
