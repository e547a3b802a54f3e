use Rattle.std.proofs.Common.{◌≡◌, ◌+◌, drop}
use Rattle.pieces.specs.Pieces.{total}
use Rattle.pieces.proofs.edit.total_in.Given as goal

abbrev pub invariant-loop-i : goal.invariant-loop-i
invariant-loop-i l = l.total + total (drop l.i l.list) ≡ total l.list
