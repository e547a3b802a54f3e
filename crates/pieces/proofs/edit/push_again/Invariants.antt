use Rattle.std.proofs.Common.{◌≡◌, ◌≤◌, ◌++◌, take, drop}
use Rattle.std.specs.Vec.{vec_capacity}
use Rattle.pieces.proofs.edit.push_again.Given as goal

abbrev pub invariant-loop-i : goal.invariant-loop-i
invariant-loop-i l = record {
  items : l.pieces.items ≡ l.fn.pieces.items ++ take l.i (drop l.fn.first l.fn.pieces.items);
  room : vec_capacity l.fn.pieces ≤ vec_capacity l.pieces;
}
