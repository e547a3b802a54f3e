-- The byte isn't among those passed.
use Rattle.std.proofs.Common.{take}
use Rattle.text_lines.specs.Lines.{Lacks}
use Rattle.text_lines.proofs.line.cut_at.Given as goal

abbrev pub invariant-loop-place : goal.invariant-loop-place
invariant-loop-place l = Lacks l.byte (take l.place l.bytes)
