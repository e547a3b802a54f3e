-- In a line a target is its number, as a whole number.
-- "Numbers in texts" in docs/formats.md.
use Rattle.std.specs.Prelude.{ℕ, List}
use Rattle.std.specs.Fmt.{signed_decimal}
use Rattle.sl_commands.specs.declared.command.Target.{Target}
use Rattle.sl_commands.specs.Commands.{target_number}

-- the word of a target
abbrev pub target_word : Target → List ℕ
target_word target = signed_decimal (target_number target)
