-- Copies of pieces.
use Rattle.std.proofs.Common.{◌≡◌, ◌≤◌, ℕ, ◌+◌, List, [], ◌∷◌, length, arith, take, drop, suc, zero, length-append, length-drop}
use Rattle.std.proofs.lemmas.List.{length-take-le}
use Rattle.pieces.specs.Pieces.{Piece, Solid}
use Rattle.pieces.specs.Splitting.{repeated}

-- the first pieces have none that is empty
pub solid-take : (k : ℕ) (ps : List Piece) → Solid ps → Solid (take k ps)
solid-take zero ps s = tt
solid-take (suc k) [] s = tt
solid-take (suc k) (p ∷ ps) s = (s.0, solid-take k ps s.1)

-- nor have the others
pub solid-drop : (k : ℕ) (ps : List Piece) → Solid ps → Solid (drop k ps)
solid-drop zero ps s = s
solid-drop (suc k) [] s = tt
solid-drop (suc k) (p ∷ ps) s = solid-drop k ps s.1

-- a repetition adds its pieces
pub length-repeated : (first count : ℕ) (ps : List Piece) → first + count ≤ length ps →
    length (repeated first count ps) ≡ length ps + count
length-repeated first count ps le =
    let d = length-drop first ps in
    let t : length (take count (drop first ps)) ≡ count =
    length-take-le count (drop first ps) (omega (arith, d, le)) in
    let a = length-append ps (take count (drop first ps)) in
    omega (arith, a, t)

pub ruleset repeats = (solid-take, solid-drop)
