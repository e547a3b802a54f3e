use Rattle.std.proofs.Common.{◌≤◌, ◌-◌, take}
use Rattle.std.specs.List.{AllByRecursion}
use Rattle.looper_laws.specs.Spans.{IsClearFor}
use Rattle.loop_tape.specs.Pools.{PoolOf}
use Rattle.looper_tracks.specs.Track.{tracks_in}
use Rattle.looper_tracks.proofs.calm.calm_frames.Given as goal

abbrev pub invariant-loop-k : goal.invariant-loop-k
invariant-loop-k l =
    ((p : PoolOf) →
    AllByRecursion (IsClearFor l.globals l.frame l.faces (l.frames - 1))
    (tracks_in p (take l.k l.tracks))) × (1 ≤ l.frames) × (l.frames ≤ l.most)
