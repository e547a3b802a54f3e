-- A list of pieces is split at a place: a piece that has addresses on both sides of it becomes two.
-- Where a piece begins at the place, and at the end of the list, nothing changes.
-- "Pieces" in docs/rules.md.
use Rattle.std.specs.Prelude.{◌≡◌, ◌≤◌, ◌<◌, ℕ, ◌+◌, ◌-◌, ◌==◌, nat_lt, get_or, List, [], ◌∷◌, ◌++◌, length, take, drop, if◌then◌else◌}
use Rattle.pieces.specs.Pieces.{Piece, address_in, total}

-- the first so many addresses of a piece
abbrev pub front : ℕ → Piece → Piece
front k p = record { start = p.start; len = k; backward = p.backward }

-- the addresses behind the first so many
abbrev pub back : ℕ → Piece → Piece
back k p = record { start = address_in p k; len = p.len - k; backward = p.backward }

-- the pieces before a place
abbrev pub before : ℕ → List Piece → List Piece
before place [] = []
before place (p ∷ ps) = if nat_lt place p.len then
    (if place == 0 then [] else front place p ∷ []) else p ∷ before (place - p.len) ps

-- the pieces from a place on
abbrev pub behind : ℕ → List Piece → List Piece
behind place [] = []
behind place (p ∷ ps) = if nat_lt place p.len then
    (if place == 0 then p ∷ ps else back place p ∷ ps) else behind (place - p.len) ps

-- the pieces, of which one begins at the place
abbrev pub split : ℕ → List Piece → List Piece
split place ps = before place ps ++ behind place ps

-- how many pieces lie wholly before a place
abbrev pub pieces_before : ℕ → List Piece → ℕ
pieces_before place [] = 0
pieces_before place (p ∷ ps) = if nat_lt place p.len then 0 else
    pieces_before (place - p.len) ps + 1

-- how far into its piece a place lies
abbrev pub offset : ℕ → List Piece → ℕ
offset place [] = place
offset place (p ∷ ps) = if nat_lt place p.len then place else offset (place - p.len) ps

-- the piece at an index has more addresses than this
abbrev pub IsInside : List Piece → ℕ → ℕ → Type 0
IsInside ps i k = (d : Piece) → k < (get_or ps i d).len

-- the piece at an index begins at a place, or both stand at the end
pub record IsHint (ps : List Piece) (i begin : ℕ) : Type 0 where
  pub within : i ≤ length ps
  pub begins : total (take i ps) ≡ begin

-- split at a place and so many addresses on, with one piece in place of what lies between
abbrev pub spliced : ℕ → ℕ → Piece → List Piece → List Piece
spliced place count p ps = before place ps ++ p ∷ behind count (behind place ps)

-- the pieces with a copy of some of them behind
abbrev pub repeated : ℕ → ℕ → List Piece → List Piece
repeated first count ps = ps ++ take count (drop first ps)

-- a list with others in place of so many from a place on
abbrev pub replaced : ℕ → ℕ → List ℕ → List ℕ → List ℕ
replaced place count others list = take place list ++ (others ++ drop (place + count) list)
