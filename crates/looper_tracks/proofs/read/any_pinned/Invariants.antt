use Rattle.std.proofs.Common.{◌≡◌, drop}
use Rattle.looper_rules.specs.Saves.{any_pinned}
use Rattle.loop_tape.specs.Pools.{PoolOf}
use Rattle.looper_tracks.specs.Track.{tracks_in}
use Rattle.looper_tracks.proofs.read.any_pinned.Given as goal

abbrev pub invariant-loop-k : goal.invariant-loop-k
invariant-loop-k l = (p : PoolOf) →
    any_pinned (tracks_in p l.tracks) ≡ any_pinned (tracks_in p (drop l.k l.tracks))
