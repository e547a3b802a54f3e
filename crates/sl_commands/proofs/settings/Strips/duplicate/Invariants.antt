use Rattle.std.proofs.Common.{◌≡◌, take}
use Rattle.sl_commands.proofs.settings.Strips.duplicate.Given as goal

abbrev pub invariant-loop-index : goal.invariant-loop-index
invariant-loop-index l = l.copy ≡ take l.index l.fn.self
