use Rattle.std.proofs.Common.{◌<◌, length}
use Rattle.benches.proofs.strip.plain.play_turn.Given as goal

abbrev pub invariant-loop : goal.invariant-loop
invariant-loop l = l.place < length l.list
