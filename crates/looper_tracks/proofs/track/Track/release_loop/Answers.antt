use Rattle.looper_rules.specs.Saves.{loop_asker}
use Rattle.looper_tracks.proofs.StepLemmas.{released_as, left_as}
use Rattle.looper_tracks.proofs.track.Track.release_loop.Goals as goal

pub returns-then-is_some : goal.returns-then-is_some
returns-then-is_some c =
    released_as loop_asker _ _ _ _ _ _ _ c.self.view_is c.loop_asker.ensures c.is_some.ensures
    c.if-is_some.true c.free.ensures

pub returns-else-is_some : goal.returns-else-is_some
returns-else-is_some c =
    left_as loop_asker _ _ _ _ _ _ c.self.view_is c.loop_asker.ensures c.is_some.ensures
    c.if-is_some.false
