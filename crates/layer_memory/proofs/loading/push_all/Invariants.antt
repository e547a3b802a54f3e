use Rattle.std.proofs.Common.{take}
use Rattle.layer_memory.specs.Appending.{Appended}
use Rattle.layer_memory.proofs.loading.push_all.Given as goal

abbrev pub invariant-loop-i : goal.invariant-loop-i
invariant-loop-i l = Appended l.fn.tape l.tape l.fn.pool l.pool (take l.i l.frames)
