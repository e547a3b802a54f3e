use Rattle.looper_rules.specs.Layers.{current_length}
use Rattle.std.proofs.Common.{◌≡◌}
use Rattle.benches.specs.Phases.{IsIdle}
use Rattle.benches.proofs.layers.steps.read_spans.Given as goal

abbrev pub invariant-loop : goal.invariant-loop
invariant-loop l = record {
  phase : IsIdle l.layers l.pool;
  length : current_length l.layers.stack.layers ≡ l.length;
}
