use Rattle.std.proofs.Common.{◌≡◌, ◌≤◌, ◌-◌, length}
use Rattle.loop_strip.proofs.SoFar.{PlaysTo}
use Rattle.loop_strip.proofs.parts.Parts.play.Given as goal

abbrev pub invariant-loop-done : goal.invariant-loop-done
invariant-loop-done l = record {
  within : l.done ≤ length l.input;
  same : length l.heard ≡ length l.fn.heard;
  plays : PlaysTo l.done l.input l.heard l.fn.self l.self l.fn.pool l.pool;
}

abbrev pub decreases-loop-done : goal.decreases-loop-done
decreases-loop-done l = length l.input - l.done
