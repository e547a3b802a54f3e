use Rattle.std.proofs.Common.{arith}
use Rattle.whole_looper.proofs.BeginLemmas.{new_is_within_bounds}
use Rattle.whole_looper.proofs.looper.Looper.of.Goals as goal

pub invariant_of-result : goal.invariant_of-result
invariant_of-result c =
    new_is_within_bounds c.settings.inside.rate _ _ _ _ _ _ _ c.settings.invariant.1
    c.as_slice-strips.ensures.value c.in_ok-tracks.ensures (omega (arith, c.in-Ok.ensures.capacity))
