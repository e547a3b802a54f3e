use Rattle.mixer_fades.specs.Sums.{AreSumsOf}
use Rattle.looper_tracks.proofs.SumLemmas.{Summing}
use Rattle.looper_tracks.proofs.span.play_all.Given as goal

abbrev pub invariant-loop-k : goal.invariant-loop-k
invariant-loop-k l =
    Summing l.step l.input l.fn.tracks l.fn.pool l.fn.sums l.tracks l.pool l.sums l.k ×
    AreSumsOf l.k l.sums
