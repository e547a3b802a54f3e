use Rattle.looper_tracks.proofs.SweepLemmas.{one_alone, none_done}
use Rattle.looper_tracks.proofs.sweep.release_one.Goals as goal

pub returns-then-index-tracks : goal.returns-then-index-tracks
returns-then-index-tracks c =
    one_alone _ _ _ _ _ _ c.if-index-tracks.true c.requires.inside c.release_loop.ensures

pub returns-else-index-tracks : goal.returns-else-index-tracks
returns-else-index-tracks c = none_done _ _ _ _ c.if-index-tracks.false c.requires.inside
