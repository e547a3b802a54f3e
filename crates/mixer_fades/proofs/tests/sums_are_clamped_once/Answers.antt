use Rattle.std.proofs.Common.{arith}
use Rattle.mixer_fades.proofs.SumLemmas.{sums_of_more}
use Rattle.mixer_fades.proofs.tests.sums_are_clamped_once.Goals as goal

pub add_span-requires-3-clause-within : goal.add_span-requires-3-clause-within
add_span-requires-3-clause-within g c =
    sums_of_more 2 16 _ (omega arith)
    (c.add_span-2.ensures.within 1 (c.add_span.ensures.within 0 c.clear_span.ensures.within))
