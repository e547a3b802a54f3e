use Rattle.looper_rules.specs.Looper.{on_loop}
use Rattle.looper_rules.specs.Entries.{sets}
use Rattle.looper_tracks.proofs.SweepLemmas.{Sweeping}
use Rattle.looper_tracks.proofs.sweep.set_all.Given as goal

abbrev pub invariant-loop-k : goal.invariant-loop-k
invariant-loop-k l =
    Sweeping (on_loop (sets l.control l.value)) l.fn.tracks l.fn.pool l.tracks l.pool l.k
