-- What was added so far, and what is left, is the whole sum.
use Rattle.std.proofs.Common.{◌≡◌, drop, ◌+ℤ◌}
use Rattle.ring_world.specs.Summaries.{left_sum, IsSumOf}
use Rattle.ring_world.proofs.summary.left_sum.Given as goal

abbrev pub invariant-loop-index : goal.invariant-loop-index
invariant-loop-index l =
    (l.sum +ℤ left_sum (drop l.index l.frames) ≡ left_sum l.frames) × IsSumOf l.index l.sum
