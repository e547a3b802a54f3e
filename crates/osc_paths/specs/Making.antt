-- A verb is given by a press that goes down, one that goes up, or a hit. A control is set and read
-- of loops, or of the looper where no loops are named.
-- "OSC paths" in docs/formats.md.
use Rattle.std.specs.Prelude.{ℤ, Option, Some, None}
use Rattle.sl_commands.specs.declared.command.Command.{Command}
use Rattle.sl_commands.specs.declared.command.Command.TheVariants as commands
use Rattle.sl_commands.specs.declared.command.Target.{Target}
use Rattle.sl_commands.specs.declared.control.Control.{Control}
use Rattle.sl_commands.specs.declared.verb.Verb.{Verb}
use Rattle.osc_paths.specs.declared.command.Press.{Press}
use Rattle.osc_paths.specs.declared.command.Press.TheVariants.{Down, Up, Hit}

-- the command that gives a verb
abbrev pub press_command : Press → Target → Verb → Command
press_command Down target verb = commands.Down target verb
press_command Up target verb = commands.Up target verb
press_command Hit target verb = commands.Hit target verb

-- the command that sets a control
abbrev pub set_command : Option Target → Control → ℤ → Command
set_command None control value = commands.SetGlobal control value
set_command (Some target) control value = commands.Set target control value

-- the command that reads a control
abbrev pub get_command : Option Target → Control → Command
get_command None control = commands.GetGlobal control
get_command (Some target) control = commands.Get target control
