use Rattle.std.proofs.Common.{◌≤◌}
use Rattle.loop_tape.specs.Tapes.{Cut}
use Rattle.loop_tape.proofs.tape.Tape.cut_to.Given as goal

abbrev pub invariant-loop-self : goal.invariant-loop-self
invariant-loop-self l = record {
  cut : Cut l.fn.self l.self l.fn.pool l.pool;
  within : l.length ≤ l.self.len;
}

abbrev pub decreases-loop-self : goal.decreases-loop-self
decreases-loop-self l = l.self.len
