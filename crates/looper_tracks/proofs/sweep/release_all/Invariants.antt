use Rattle.looper_rules.specs.Saves.{session_released}
use Rattle.looper_tracks.proofs.SweepLemmas.{Sweeping}
use Rattle.looper_tracks.proofs.sweep.release_all.Given as goal

abbrev pub invariant-loop-k : goal.invariant-loop-k
invariant-loop-k l =
    Sweeping (λ reach t. session_released t) l.fn.tracks l.fn.pool l.tracks l.pool l.k
