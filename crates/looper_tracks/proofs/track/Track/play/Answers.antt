use Rattle.looper_tracks.proofs.StepLemmas.{track_did_play, track_did_give}
use Rattle.looper_tracks.proofs.track.Track.play.Goals as goal

pub returns-clause-track : goal.returns-clause-track
returns-clause-track c =
    track_did_play _ _ _ _ _ _ _ _ _ _ _ _ c.self.view_is (c.wet-wet.ensures.value c.args.pool.now)
    c.play.ensures.did c.play.ensures.heard c.add_span.ensures.gain

pub returns-clause-sums : goal.returns-clause-sums
returns-clause-sums c =
    track_did_give _ _ _ _ _ _ _ _ _ _ _ c.self.view_is (c.wet-wet.ensures.value c.args.pool.now)
    c.play.ensures.heard c.add_span.ensures.sums
