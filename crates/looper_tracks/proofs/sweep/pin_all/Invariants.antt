use Rattle.looper_rules.specs.Saves.{pinned_for}
use Rattle.looper_tracks.proofs.SweepLemmas.{Sweeping}
use Rattle.looper_tracks.proofs.sweep.pin_all.Given as goal

abbrev pub invariant-loop-k : goal.invariant-loop-k
invariant-loop-k l =
    Sweeping (λ reach t. pinned_for l.asker t) l.fn.tracks l.fn.pool l.tracks l.pool l.k
