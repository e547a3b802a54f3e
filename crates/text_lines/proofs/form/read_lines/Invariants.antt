-- What the lines so far spell was read off the front, and the rest is left.
use Rattle.std.proofs.Common.{◌≡◌, length, ◌++◌, ◌∷◌}
use Rattle.text_lines.specs.FirstFaults.{IsReadUpTo}
use Rattle.text_lines.proofs.form.read_lines.Given as goal

abbrev pub invariant-lines : goal.invariant-lines
invariant-lines g l =
    (g.L.FormLines.given l.so_far ≡ g.L.FormLines.given l.fn.none)
    × IsReadUpTo (g.L.FormLines.form (g.L.FormLines.given l.fn.none))
    ((g.L.FormLines.form (g.L.FormLines.given l.fn.none)).header ++ (10 ∷ l.lines))
    (g.L.FormLines.items l.so_far) l.rest

abbrev pub decreases-lines : goal.decreases-lines
decreases-lines g l = length l.rest
