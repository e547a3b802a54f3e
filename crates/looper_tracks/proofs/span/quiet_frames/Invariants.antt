use Rattle.std.proofs.Common.{◌≤◌, take, length}
use Rattle.std.specs.List.{AllByRecursion}
use Rattle.looper_laws.specs.Spans.{IsQuietBehindFor}
use Rattle.loop_tape.specs.Pools.{PoolOf}
use Rattle.looper_tracks.specs.Track.{tracks_in}
use Rattle.looper_tracks.proofs.span.quiet_frames.Given as goal

abbrev pub invariant-loop-k : goal.invariant-loop-k
invariant-loop-k l =
    ((p : PoolOf) →
    AllByRecursion (IsQuietBehindFor (take l.frames l.input))
    (tracks_in p (take l.k l.tracks))) × (1 ≤ l.frames) × (l.frames ≤ length l.input)
