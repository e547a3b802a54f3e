use Rattle.std.proofs.Common.{◌≡◌, ◌+◌, ◌-◌, ◌≤◌, drop, length}
use Rattle.pieces.specs.Pieces.{total}
use Rattle.pieces.specs.Splitting.{offset, pieces_before}
use Rattle.pieces.proofs.find.walk_on.Given as goal

abbrev pub invariant-loop-i : goal.invariant-loop-i
invariant-loop-i l = record {
  piece : pieces_before l.at (drop l.i l.list) + l.i ≡ pieces_before l.fn.place l.list;
  into : offset l.at (drop l.i l.list) ≡ offset l.fn.place l.list;
  begins : l.at + total l.list ≡ l.fn.place + total (drop l.i l.list);
  above : l.at ≤ l.fn.place;
  left : l.at ≤ total (drop l.i l.list);
  within : l.i ≤ length l.list;
}

abbrev pub decreases-loop-i : goal.decreases-loop-i
decreases-loop-i l = length l.list - l.i
