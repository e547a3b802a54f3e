-- Why files aren't those of a run is the fault of the run.
-- "Statuses" in docs/formats.md.
use Rattle.std.specs.Prelude.{◌≡◌}
use Rattle.run_files.specs.declared.run.FilesFault.{FilesFault}
use Rattle.run_files.specs.declared.run.FilesFault.TheVariants.{File, Read, Memory as NoRoom, Limit as TooMuch}
use Rattle.console_lines.specs.declared.status.RunFault.{RunFault}
use Rattle.console_lines.specs.declared.status.RunFault.TheVariants.{BadFile, Limit, Reading, Memory}

-- it is handed on
abbrev pub PassesFiles : FilesFault → RunFault → Type 0
PassesFiles (File name kind line) fault = fault ≡ BadFile name kind line
PassesFiles Read fault = fault ≡ Reading
PassesFiles NoRoom fault = fault ≡ Memory
PassesFiles TooMuch fault = fault ≡ Limit
