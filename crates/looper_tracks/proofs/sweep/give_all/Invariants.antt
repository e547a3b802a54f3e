use Rattle.looper_rules.specs.Looper.{on_loop}
use Rattle.loop_strip.specs.Strips.{gives}
use Rattle.looper_tracks.proofs.SweepLemmas.{Sweeping}
use Rattle.looper_tracks.proofs.sweep.give_all.Given as goal

abbrev pub invariant-loop-k : goal.invariant-loop-k
invariant-loop-k l =
    Sweeping (on_loop (gives l.given)) l.fn.tracks l.fn.pool l.tracks
    l.pool l.k
