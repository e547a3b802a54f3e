use Rattle.loop_strip.proofs.Undoing.{IsRedone}
use Rattle.loop_strip.proofs.parts.Parts.redo_all.Given as goal

abbrev pub invariant-loop-i : goal.invariant-loop-i
invariant-loop-i l = IsRedone l.i l.fn.self l.self
