-- What a list of pieces is seen as, of its inside.
-- A hint says where some piece begins. It changes nothing that is seen, and any right one will do:
-- searches begin there.
-- "Pieces" in docs/rules.md.
use Rattle.std.specs.Prelude.{◌≡◌, ◌≤◌, ◌+◌, length}
use Rattle.std.specs.Vec.{vec_capacity}
use Rattle.sl_base.specs.Limits.{max_seams}
use Rattle.pieces.specs.Pieces.{Pieces, Solid, total}
use Rattle.pieces.specs.Splitting.{IsHint}
use Rattle.pieces.specs.declared.list.PieceList.TheInside.{Inside}

-- the pieces and their room
abbrev pub pieces_of : Inside → Pieces
pieces_of s = record { items = s.pieces.items; room = s.room }

-- what always holds: a split at both ends of what is replaced may hold some pieces more for a
-- moment
pub record IsList (s : Inside) : Type 0 where
  pub spare : s.room + 4 ≤ vec_capacity s.pieces
  pub room : s.room ≤ max_seams
  pub few : length s.pieces.items ≤ s.room
  pub solid : Solid s.pieces.items
  pub total : s.total ≡ total s.pieces.items
  pub hint : IsHint s.pieces.items s.hint.piece s.hint.begin
