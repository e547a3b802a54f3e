use Rattle.looper_rules.specs.Looper.{on_loop}
use Rattle.looper_rules.specs.Frame.{at_boundary}
use Rattle.looper_tracks.proofs.SweepLemmas.{Sweeping}
use Rattle.looper_tracks.proofs.sweep.meet_boundaries.Given as goal

abbrev pub invariant-loop-k : goal.invariant-loop-k
invariant-loop-k l =
    Sweeping (on_loop (at_boundary l.globals l.frame l.faces)) l.fn.tracks l.fn.pool l.tracks l.pool
    l.k
