use Rattle.std.proofs.Common.{◌≤◌}
use Rattle.loop_tape.specs.Tapes.{Owns}
use Rattle.loop_tape.proofs.tests.push_frames.Given as goal

abbrev pub invariant-loop-k : goal.invariant-loop-k
invariant-loop-k l = record {
  owns : Owns l.tape l.pool;
  taken : l.taken ≤ l.k;
}
