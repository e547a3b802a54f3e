use Rattle.std.proofs.Common.{◌≡◌, ◌≤◌, ◌<◌, ◌-◌, ℕ, length, get_or}
use Rattle.sl_base.specs.Sounds.{silence}
use Rattle.loop_tape.specs.Tapes.{at}
use Rattle.loop_tape.proofs.tape.Tape.read_backward.Given as goal

abbrev pub invariant-loop-done : goal.invariant-loop-done
invariant-loop-done l = record {
  within : l.done ≤ length l.out;
  value : (k : ℕ) → k < l.done → get_or l.out k silence ≡ at l.self l.pool (l.address - k);
}

abbrev pub decreases-loop-done : goal.decreases-loop-done
decreases-loop-done l = length l.out - l.done
