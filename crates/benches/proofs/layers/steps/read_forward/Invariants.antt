use Rattle.std.proofs.Common.{◌≡◌}
use Rattle.looper_rules.specs.Layers.{current_length}
use Rattle.benches.specs.Phases.{IsIdle}
use Rattle.benches.proofs.layers.steps.read_forward.Given as goal

abbrev pub invariant-loop-i : goal.invariant-loop-i
invariant-loop-i l = record {
  idle : IsIdle l.layers l.pool;
  length : current_length l.layers.stack.layers ≡ l.length;
}
