use Rattle.std.proofs.Common.{◌≤◌, ◌+◌, IsTrue}
use Rattle.loop_tape.specs.Tapes.{Owns}
use Rattle.layer_memory.proofs.tests.insert.Given as goal

abbrev pub invariant-loop-i : goal.invariant-loop-i
invariant-loop-i l = record {
  writing : IsTrue l.layers.writing;
  owns : Owns l.layers.tape l.pool;
  place : l.place ≤ l.fn.from + l.i;
}
