use Rattle.looper_tracks.proofs.SweepLemmas.{sweeping_alone}
use Rattle.looper_tracks.proofs.sweep.release_all.Goals as goal

pub loop-k-preserved : goal.loop-k-preserved
loop-k-preserved c =
    sweeping_alone _ _ _ _ _ _ _ c.loop-k.invariant c.loop-k-test.true c.release_session.ensures
