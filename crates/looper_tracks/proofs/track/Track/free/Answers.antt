use Rattle.looper_tracks.proofs.StepLemmas.{track_freed}
use Rattle.looper_tracks.proofs.track.Track.free.Goals as goal

pub returns : goal.returns
returns c = track_freed _ _ _ _ _ c.self.view_is c.release.ensures
