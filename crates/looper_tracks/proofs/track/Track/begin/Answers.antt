use Rattle.looper_tracks.proofs.LoadLemmas.{track_begun, track_without, some_where, none_where}
use Rattle.looper_tracks.proofs.track.Track.begin.Goals as goal

pub returns-then-not-is_empty : goal.returns-then-not-is_empty
returns-then-not-is_empty c =
    track_begun _ _ _ _ _ _ _ c.requires.track
    (some_where _ _ c.is_empty.ensures c.if-not-is_empty.true) c.load.ensures

pub returns-else-not-is_empty : goal.returns-else-not-is_empty
returns-else-not-is_empty c =
    track_without _ _ _ _ _ c.requires (none_where _ _ c.is_empty.ensures c.if-not-is_empty.false)
