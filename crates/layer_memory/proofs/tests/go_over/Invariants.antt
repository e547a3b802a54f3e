use Rattle.std.proofs.Common.{◌≤◌, ◌+◌, IsTrue}
use Rattle.loop_tape.specs.Tapes.{Owns}
use Rattle.layer_memory.proofs.tests.go_over.Given as goal

abbrev pub invariant-loop-place : goal.invariant-loop-place
invariant-loop-place l = record {
  writing : IsTrue l.layers.writing;
  owns : Owns l.layers.tape l.pool;
}
