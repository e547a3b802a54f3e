use Rattle.std.proofs.Common.{◌≡◌, ◌≤◌, ◌*◌, take}
use Rattle.std.specs.Prelude.{sum_by}
use Rattle.loop_tape.specs.Pools.{PoolOf}
use Rattle.looper_tracks.specs.Track.{tracks_in}
use Rattle.looper_tracks.specs.Tracks.{refused_on}
use Rattle.looper_tracks.proofs.read.refused.Given as goal

abbrev pub invariant-loop-k : goal.invariant-loop-k
invariant-loop-k l = ((p : PoolOf) → l.sum ≡ sum_by refused_on (tracks_in p (take l.k l.tracks))) ×
    (l.sum ≤ l.k * 4294967296)
