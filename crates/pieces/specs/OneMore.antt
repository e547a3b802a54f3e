-- One address more, in place of another or before it, or behind all of them.
-- Where the piece before it goes on to that address, this piece grows, and no piece is added.
-- Backward it is the piece behind it that grows. So a streak of such writes at addresses in order
-- adds pieces at its first write alone.
-- "Pieces" in docs/rules.md.
use Rattle.std.specs.Prelude.{◌≡◌, ◌≤◌, ℕ, zero, suc, ◌+◌, ◌==◌, List, [], ◌∷◌, ◌++◌, Bool, true, false, if◌then◌else◌, IsTrue, not, ◌||◌, ◌&&◌}
use Rattle.pieces.specs.Pieces.{Piece, total}
use Rattle.pieces.specs.Splitting.{before, behind, offset}

-- the piece of one address
abbrev pub one : ℕ → Piece
one a = record { start = a; len = 1; backward = false }

-- whether a piece goes on to an address
abbrev pub grows : ℕ → Piece → Bool
grows a p = (not p.backward || p.len == 1) && (p.start + p.len == a)

-- the piece with the address behind its last
abbrev pub grown : Piece → Piece
grown p = record { start = p.start; len = p.len + 1; backward = false }

-- the piece with so many addresses behind its last
abbrev pub grown_by : ℕ → Piece → Piece
grown_by k p = record { start = p.start; len = p.len + k; backward = false }

-- whether a piece goes on backward to an address
abbrev pub grows_down : ℕ → Piece → Bool
grows_down a p = (p.backward || p.len == 1) && (p.start + 1 == a)

-- the piece with the address above its first in front
abbrev pub grown_down : Piece → Piece
grown_down p = record { start = p.start + 1; len = p.len + 1; backward = true }

-- a piece and more pieces, with an address behind
abbrev pub joined_on : ℕ → Piece → List Piece → List Piece
joined_on a p [] = if grows a p then grown p ∷ [] else p ∷ one a ∷ []
joined_on a p (q ∷ ps) = p ∷ joined_on a q ps

-- the pieces with an address behind
abbrev pub joined : ℕ → List Piece → List Piece
joined a [] = one a ∷ []
joined a (p ∷ ps) = joined_on a p ps

-- the pieces with an address in front
abbrev pub joined_before : ℕ → List Piece → List Piece
joined_before a [] = one a ∷ []
joined_before a (p ∷ ps) = if grows_down a p then grown_down p ∷ ps else one a ∷ p ∷ ps

-- whether the last of a piece and more pieces goes on to an address
abbrev pub ends_on : ℕ → Piece → List Piece → Bool
ends_on a p [] = grows a p
ends_on a p (q ∷ ps) = ends_on a q ps

-- whether the last piece goes on to an address
abbrev pub ends : ℕ → List Piece → Bool
ends a [] = false
ends a (p ∷ ps) = ends_on a p ps

-- whether the first piece goes on backward to an address
abbrev pub starts : ℕ → List Piece → Bool
starts a [] = false
starts a (p ∷ ps) = grows_down a p

-- the pieces with an address in place of that at a place
abbrev pub overwritten : ℕ → ℕ → List Piece → List Piece
overwritten place a ps = joined a (before place ps) ++ behind 1 (behind place ps)

-- the same for so many places and addresses in a row
abbrev pub overwritten_span : ℕ → ℕ → ℕ → List Piece → List Piece
overwritten_span zero place a ps = ps
overwritten_span (suc k) place a ps =
    overwritten_span k (place + 1) (a + 1) (overwritten place a ps)

-- the same, where it goes on with what stands behind it
abbrev pub overwritten_backward : ℕ → ℕ → List Piece → List Piece
overwritten_backward place a ps = before place ps ++ joined_before a (behind 1 (behind place ps))

-- the pieces with an address before that at a place
abbrev pub inserted : ℕ → ℕ → List Piece → List Piece
inserted place a ps = joined a (before place ps) ++ behind place ps

-- an address at this place goes on from the piece that ends before it
pub record Continues (place a : ℕ) (ps : List Piece) : Type 0 where
  pub begins : offset place ps ≡ 0
  pub ends : IsTrue (ends a (before place ps))

-- an address before this place goes on from the piece that begins there
pub record ContinuesBackward (place a : ℕ) (ps : List Piece) : Type 0 where
  pub begins : offset place ps ≡ 0
  pub inside : place ≤ total ps
  pub starts : IsTrue (starts a (behind place ps))
