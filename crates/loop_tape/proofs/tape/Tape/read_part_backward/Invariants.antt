use Rattle.std.proofs.Common.{◌≡◌, ◌<◌, ◌-◌, ℕ, get_or}
use Rattle.sl_base.specs.Sounds.{silence}
use Rattle.loop_tape.specs.Tapes.{at}
use Rattle.loop_tape.proofs.tape.Tape.read_part_backward.Given as goal

abbrev pub invariant-loop-i : goal.invariant-loop-i
invariant-loop-i l = (k : ℕ) → k < l.i → get_or l.out k silence ≡ at l.self l.pool (l.address - k)
