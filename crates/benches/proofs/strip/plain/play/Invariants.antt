use Rattle.std.proofs.Common.{◌<◌, length}
use Rattle.benches.proofs.strip.plain.play.Given as goal

abbrev pub invariant-loop-i : goal.invariant-loop-i
invariant-loop-i l = l.place < length l.list
