use Rattle.std.proofs.Common.{◌≡◌, map, length, take}
use Rattle.looper_rules.specs.Saves.{strip_on}
use Rattle.loop_tape.specs.Pools.{PoolOf}
use Rattle.looper_tracks.specs.Track.{tracks_in}
use Rattle.looper_tracks.proofs.saved.strips_of.Given as goal

abbrev pub invariant-loop-k : goal.invariant-loop-k
invariant-loop-k l = ((p : PoolOf) → l.strips ≡ map strip_on (tracks_in p (take l.k l.tracks))) ×
    (length l.strips ≡ l.k)
