use Rattle.loop_strip.proofs.Carrying.{IsCarried}
use Rattle.loop_strip.proofs.parts.Parts.act.Given as goal

abbrev pub invariant-loop-i : goal.invariant-loop-i
invariant-loop-i l = IsCarried l.i l.act l.fn.self l.self l.fn.pool l.pool
