use Rattle.std.proofs.Common.{w32}
use Rattle.std.proofs.lemmas.Int.{to_z-of_z}
use Rattle.looper_tracks.proofs.StepLemmas.{track_alone}
use Rattle.looper_tracks.proofs.track.Track.set.Goals as goal

pub returns : goal.returns
returns c =
    track_alone _ _ _ _ _ _ c.self.view_is
    (rw (to_z-of_z w32 c.args.value c.ranges.value) at c.set.ensures)
