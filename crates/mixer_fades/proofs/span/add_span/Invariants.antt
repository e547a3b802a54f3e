use Rattle.std.proofs.Common.{◌≡◌, ℕ, ◌+◌, ◌++◌, take, drop}
use Rattle.looper_rules.specs.GainSpans.{gain_over, scaled_over, added}
use Rattle.mixer_fades.specs.Sums.{AreSumsOf}
use Rattle.mixer_fades.proofs.span.add_span.Given as goal

abbrev pub invariant-loop-k : goal.invariant-loop-k
invariant-loop-k l = record {
  sums : take l.k l.sums
      ++ added (drop l.k l.sums) (scaled_over l.target l.by (drop l.k l.heard) l.gain) ≡ added
      l.fn.sums (scaled_over l.target l.by l.heard l.fn.gain);
  gain : gain_over l.target l.by (drop l.k l.heard) l.gain ≡ gain_over l.target l.by l.heard
      l.fn.gain;
  left : drop l.k l.sums ≡ drop l.k l.fn.sums;
  done : (givers : ℕ) → AreSumsOf givers l.fn.sums → AreSumsOf (givers + 1) (take l.k l.sums);
}
