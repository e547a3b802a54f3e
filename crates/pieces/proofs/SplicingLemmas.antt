-- What splitting and splicing give as calls.
use Rattle.std.proofs.Common.{◌≡◌, ◌≤◌, ℕ, ◌+◌, List, ◌∷◌, ◌++◌, length, arith, take, length-append}
use Rattle.std.proofs.Math.Seq.{take-append_seam}
use Rattle.pieces.specs.Pieces.{Piece, total, Solid}
use Rattle.pieces.specs.Splitting.{before, behind, split, spliced, IsHint}
use Rattle.pieces.proofs.SplittingLemmas.{total-before, total-behind, total-append}
use Rattle.pieces.proofs.AddressLemmas.{addresses-split, addresses-spliced, total-split}
use Rattle.pieces.proofs.OneMoreLemmas.{solid-append, solid-before, solid-behind}

-- a place at which the pieces before it end
pub hint-between : (place i : ℕ) (ps qs xs : List Piece) → place ≤ total ps →
    xs ≡ before place ps ++ qs → i ≡ length (before place ps) → IsHint xs i place
hint-between place i ps qs xs le e n =
    let b = total-before place ps le in
    let l = length-append (before place ps) qs in
    rw (e, n) (record {
      within = omega (arith, l);
      begins =
          rw (take-append_seam (before place ps) qs) b;
    })

-- a right hint at a split
pub split-hint : (place i : ℕ) (ps xs : List Piece) → place ≤ total ps → xs ≡ split place ps →
    i ≡ length (before place ps) → IsHint xs i place
split-hint place i ps xs le e n = hint-between place i ps (behind place ps) xs le e n

-- where the split begins
pub split-begins : (place i : ℕ) (ps xs : List Piece) → place ≤ total ps → xs ≡ split place ps →
    i ≡ length (before place ps) → total (take i xs) ≡ place
split-begins place i ps xs le e n = (split-hint place i ps xs le e n).begins

-- a split leaves no empty piece
pub split-solid : (place : ℕ) (ps : List Piece) → Solid ps → Solid (split place ps)
split-solid place ps s = solid-append (before place ps) (behind place ps) (solid-before place ps s)
    (solid-behind place ps s)

-- a right hint at a splice
pub spliced-hint : (place count i : ℕ) (p : Piece) (ps xs : List Piece) → place + count ≤ total ps →
    xs ≡ spliced place count p ps → i ≡ length (before place ps) → IsHint xs i place
spliced-hint place count i p ps xs le e n =
    hint-between place i ps (p ∷ behind count (behind place ps)) xs (omega (arith, le)) e n

-- the length of a splice
pub spliced-total : (place count : ℕ) (p : Piece) (ps : List Piece) → place + count ≤ total ps →
    total (spliced place count p ps) + count ≡ total ps + p.len
spliced-total place count p ps le =
    let b = total-before place ps (omega (arith, le)) in
    let h = total-behind place ps (omega (arith, le)) in
    let g = total-behind count (behind place ps) (omega (arith, h, le)) in
    let a = total-append (before place ps) (p ∷ behind count (behind place ps)) in
    omega (arith, b, h, g, a)

-- a splice leaves no empty piece
pub spliced-solid : (place count : ℕ) (p : Piece) (ps : List Piece) → 1 ≤ p.len → Solid ps →
    Solid (spliced place count p ps)
spliced-solid place count p ps some s =
    solid-append (before place ps) (p ∷ behind count (behind place ps)) (solid-before place ps s)
    (some, solid-behind count (behind place ps) (solid-behind place ps s))

pub ruleset calls = (
  split-hint,
  split-begins,
  split-solid,
  addresses-split,
  total-split,
  spliced-hint,
  spliced-total,
  spliced-solid,
  addresses-spliced,
)
