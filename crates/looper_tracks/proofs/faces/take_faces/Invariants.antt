use Rattle.std.proofs.Common.{◌≡◌, take, map, length}
use Rattle.std.specs.Vec.{vec_capacity}
use Rattle.looper_rules.specs.Looper.{face_on}
use Rattle.loop_tape.specs.Pools.{PoolOf}
use Rattle.looper_tracks.specs.Track.{tracks_in}
use Rattle.looper_tracks.proofs.faces.take_faces.Given as goal

abbrev pub invariant-loop-k : goal.invariant-loop-k
invariant-loop-k l =
    ((p : PoolOf) → l.faces.items ≡ map face_on (tracks_in p (take l.k l.tracks))) ×
    (vec_capacity l.faces ≡ vec_capacity l.fn.faces) × (length l.faces.items ≡ l.k)
