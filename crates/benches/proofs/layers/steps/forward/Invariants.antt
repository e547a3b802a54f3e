use Rattle.std.proofs.Common.{◌≡◌, ◌+◌}
use Rattle.sl_commands.specs.declared.How.TheVariants.{Forward}
use Rattle.looper_rules.specs.Layers.{current_length}
use Rattle.looper_rules.specs.WritePlaces.{Follows}
use Rattle.benches.specs.Phases.{IsWriting}
use Rattle.benches.proofs.layers.steps.forward.Given as goal

abbrev pub invariant-loop-i : goal.invariant-loop-i
invariant-loop-i l = record {
  writing : IsWriting l.layers l.pool;
  length : current_length l.layers.stack.layers ≡ l.length;
  follows : Follows l.layers.stack.streak Forward (l.from + l.i);
}
