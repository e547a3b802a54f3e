use Rattle.looper_tracks.proofs.StepLemmas.{track_pinned}
use Rattle.looper_tracks.proofs.track.Track.pin.Goals as goal

pub returns : goal.returns
returns c = track_pinned _ _ _ _ _ _ c.self.view_is c.pin.ensures
