-- What is written, and the lines that are left, are the lines of the loops.
use Rattle.std.proofs.Common.{◌≡◌, ◌++◌, [], drop}
use Rattle.std.specs.String.{string_bytes}
use Rattle.text_lines.specs.Lines.{lines_then}
use Rattle.session_file.specs.SessionLines.{line_text, loop_lines}
use Rattle.session_file.proofs.write.write_strips.Given as goal

abbrev pub invariant-strips : goal.invariant-strips
invariant-strips l =
    string_bytes l.out ++ lines_then line_text (loop_lines l.index (drop l.index l.strips))
    [] ≡ string_bytes l.fn.out ++ lines_then line_text (loop_lines 0 l.strips) []
