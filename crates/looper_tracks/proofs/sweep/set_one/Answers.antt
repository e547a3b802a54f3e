use Rattle.std.proofs.Common.{w32}
use Rattle.std.proofs.lemmas.Int.{to_z-of_z}
use Rattle.looper_tracks.proofs.SweepLemmas.{one_alone, none_done}
use Rattle.looper_tracks.proofs.sweep.set_one.Goals as goal

pub returns-then-index-tracks : goal.returns-then-index-tracks
returns-then-index-tracks c =
    rw (to_z-of_z w32 c.args.value c.ranges.value) at
    (one_alone _ _ _ _ _ _ c.if-index-tracks.true c.requires.inside c.set.ensures)

pub returns-else-index-tracks : goal.returns-else-index-tracks
returns-else-index-tracks c = none_done _ _ _ _ c.if-index-tracks.false c.requires.inside
