-- A piece is a stretch of addresses, forward or backward: (10, 4, forward) stands for 10 11 12 13,
-- and (30, 3, backward) for 30 29 28. A list of pieces stands for the list of their addresses, one
-- piece behind the other.
-- "Pieces" in docs/rules.md.
use Rattle.std.specs.Prelude.{◌≤◌, ℕ, ◌+◌, ◌-◌, ◌^◌, List, [], ◌∷◌, ◌++◌, map, Bool, if◌then◌else◌, IsTrue, IsFalse}
use Rattle.std.specs.List.{range_with_len, AllByRecursion}

-- a stretch of addresses
pub record Piece : Type 0 where
  pub start : ℕ
  pub len : ℕ
  pub backward : Bool

-- it has an address, and all of them lie within 0 and 4294967295
pub record IsPiece (p : Piece) : Type 0 where
  pub some : 1 ≤ p.len
  pub forward_within : IsFalse p.backward → p.start + p.len ≤ 2 ^ 32
  pub backward_within : IsTrue p.backward → p.len ≤ p.start + 1

-- what a list of pieces is seen as: the pieces, and how many it may hold
pub record Pieces : Type 0 where
  pub items : List Piece
  pub room : ℕ

-- the address so many places into a piece
abbrev pub address_in : Piece → ℕ → ℕ
address_in p k = if p.backward then p.start - k else p.start + k

-- the addresses of one piece
abbrev pub piece_addresses : Piece → List ℕ
piece_addresses p = map (address_in p) (range_with_len 0 p.len)

-- the addresses of a list of pieces
abbrev pub addresses : List Piece → List ℕ
addresses [] = []
addresses (p ∷ ps) = piece_addresses p ++ addresses ps

-- how many addresses there are
abbrev pub total : List Piece → ℕ
total [] = 0
total (p ∷ ps) = p.len + total ps

-- each piece has an address
abbrev pub Solid : List Piece → Type 0
Solid ps = AllByRecursion (λ p. 1 ≤ p.len) ps

-- the list with other pieces, in the same room
abbrev pub holding : List Piece → Pieces → Pieces
holding ps l = record { items = ps; room = l.room }
