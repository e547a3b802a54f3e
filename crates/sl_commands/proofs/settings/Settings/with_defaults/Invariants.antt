use Rattle.std.proofs.Common.{◌≡◌, replicate}
use Rattle.sl_commands.specs.Settings.{default_strip}
use Rattle.sl_commands.proofs.settings.Settings.with_defaults.Given as goal

abbrev pub invariant-loop : goal.invariant-loop
invariant-loop l = l.strips ≡ replicate l.counter default_strip
