use Rattle.std.proofs.Common.{◌≡◌, ◌≤◌, map, length, take}
use Rattle.std.specs.Vec.{vec_capacity}
use Rattle.looper_tracks.specs.Beginnings.{new_track}
use Rattle.looper_tracks.proofs.load.new_tracks.Given as goal

abbrev pub invariant-loop-k : goal.invariant-loop-k
invariant-loop-k l = (l.tracks.items ≡ map (new_track l.chunks) (take l.k l.strips)) ×
    (length l.strips ≤ vec_capacity l.tracks) × (length l.tracks.items ≡ l.k)
