use Rattle.std.proofs.Common.{◌≡◌, drop}
use Rattle.looper_rules.specs.Saves.{running_session}
use Rattle.loop_tape.specs.Pools.{PoolOf}
use Rattle.looper_tracks.specs.Track.{tracks_in}
use Rattle.looper_tracks.proofs.read.running_session.Given as goal

abbrev pub invariant-loop-k : goal.invariant-loop-k
invariant-loop-k l = (p : PoolOf) →
    running_session (tracks_in p l.tracks) ≡ running_session (tracks_in p (drop l.k l.tracks))
