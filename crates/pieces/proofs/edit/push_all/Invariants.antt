use Rattle.std.proofs.Common.{◌≡◌, ◌≤◌, ◌++◌, take}
use Rattle.std.specs.Vec.{vec_capacity}
use Rattle.pieces.proofs.edit.push_all.Given as goal

abbrev pub invariant-loop-i : goal.invariant-loop-i
invariant-loop-i l = record {
  items : l.pieces.items ≡ l.fn.pieces.items ++ take l.i l.list;
  room : vec_capacity l.fn.pieces ≤ vec_capacity l.pieces;
}
