use Rattle.std.proofs.Common.{◌≡◌, ◌++◌, take, drop}
use Rattle.std.specs.Prelude.{map}
use Rattle.sl_base.specs.Sounds.{clamped_sound}
use Rattle.mixer_fades.proofs.span.close_span.Given as goal

abbrev pub invariant-loop-k : goal.invariant-loop-k
invariant-loop-k l = take l.k l.output ≡ map clamped_sound (take l.k l.sums)
