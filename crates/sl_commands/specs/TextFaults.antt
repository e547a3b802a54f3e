-- A text is judged line by line, and its first fault has a line, counted from 1, and a kind. The
-- kinds have numbers.
-- "Faults of texts" in docs/rules.md.
use Rattle.std.specs.Prelude.{ℕ}
use Rattle.sl_commands.specs.declared.fault.TextKind.{TextKind}
use Rattle.sl_commands.specs.declared.fault.TextKind.TheVariants.{Header, Form, Value, Order, TooMany, Ending}

-- the number of a kind of fault
abbrev pub kind_number : TextKind → ℕ
kind_number Header = 1
kind_number Form = 2
kind_number Value = 3
kind_number Order = 4
kind_number TooMany = 5
kind_number Ending = 6
