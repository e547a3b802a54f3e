-- The lines of the loops so far were read.
use Rattle.std.proofs.Common.{◌≡◌, ◌++◌, length}
use Rattle.std.specs.Prelude.{IsTrue}
use Rattle.sl_commands.specs.Settings.{are_strips}
use Rattle.session_file.specs.SessionLines.{loop_lines}
use Rattle.session_file.proofs.reading.Reading.strips.Given as goal

abbrev pub invariant-loops : goal.invariant-loops
invariant-loops l = (l.self.bytes ≡ l.fn.self.bytes)
    × (l.self.lines ≡ l.fn.self.lines ++ loop_lines 0 l.strips) × (length l.strips ≡ l.index)
    × IsTrue (are_strips l.strips)
