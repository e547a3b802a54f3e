use Rattle.loop_strip.proofs.Undoing.{IsUndone}
use Rattle.loop_strip.proofs.parts.Parts.undo_all.Given as goal

abbrev pub invariant-loop-i : goal.invariant-loop-i
invariant-loop-i l = IsUndone l.i l.fn.self l.self
