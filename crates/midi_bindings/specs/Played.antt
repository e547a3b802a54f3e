-- A binding gives a verb or sets a control of a loop. What it gives at an event is in range for the
-- loops of the bindings: a sweep's value lies between its ends.
-- "Bindings" in docs/formats.md.
use Rattle.std.specs.Prelude.{ℕ, Bool, true, false, IsTrue}
use Rattle.sl_commands.specs.Commands.{is_allowed}
use Rattle.sl_commands.specs.declared.command.Command.{Command}
use Rattle.sl_commands.specs.declared.command.Command.TheVariants.{Down, Up, Hit, Set}

-- the command gives a verb or sets a loop's control: it asks for nothing, and is no release
abbrev pub is_played : Command → Bool
is_played (Down target verb) = true
is_played (Up target verb) = true
is_played (Hit target verb) = true
is_played (Set target control value) = true
is_played _ = false

-- a command that is there may be played, for so many loops
pub record MayBePlayed (loops : ℕ) (command : Command) : Type 0 where
  pub played : IsTrue (is_played command)
  pub allowed : IsTrue (is_allowed loops command)
