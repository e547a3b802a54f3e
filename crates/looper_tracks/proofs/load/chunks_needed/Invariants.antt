use Rattle.std.proofs.Common.{◌≡◌, ◌≤◌, ◌*◌, map, length, take}
use Rattle.looper_rules.specs.Room.{used}
use Rattle.looper_tracks.proofs.load.chunks_needed.Given as goal

abbrev pub invariant-loop-k : goal.invariant-loop-k
invariant-loop-k l = (l.chunks ≡ used (map length (take l.k l.lists))) × (l.chunks ≤ l.k * 4096)
