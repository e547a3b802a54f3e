-- Addresses in a row written over others: a border of two pieces, moved by as many at once.
use Rattle.std.proofs.Common.{◌≡◌, ◌≤◌, ◌<◌, ℕ, ◌+◌, ◌-◌, ◌==◌, ◌&&◌, Bool, true, false, List, [], ◌∷◌, length, refl, sym, ap, ap₂, arith, get_or, suc, zero}
use Rattle.std.specs.Prelude.{slice_set}
use Rattle.pieces.specs.Pieces.{Piece, Solid, addresses, total}
use Rattle.pieces.specs.Splitting.{IsHint, back, before}
use Rattle.pieces.specs.OneMore.{grown, grown_by, grows, joined, overwritten, overwritten_span}
use Rattle.pieces.proofs.AddressLemmas.{length-addresses}
use Rattle.pieces.proofs.OneMoreLemmas.{overwritten-hint, overwritten-solid, overwritten-total}
use Rattle.pieces.proofs.BorderLemmas.{two-within, border-over, border-index}

trans : {A : Type 0} {x y z : A} → x ≡ y → y ≡ z → x ≡ z
trans e f = rw e f

back-none : (q : Piece) → back 0 q ≡ q
back-none q = back_as q.backward q refl
  where
    back_as : (b : Bool) (q : Piece) → q.backward ≡ b → back 0 q ≡ q
    back_as true q e = let z : q.start - 0 ≡ q.start = omega arith in let y : q.len - 0 ≡ q.len =
        omega arith in rw (e, z, y, sym e) refl
    back_as false q e = let z : q.start + 0 ≡ q.start = omega arith in let y : q.len - 0 ≡ q.len =
        omega arith in rw (e, z, y, sym e) refl

back-back : (k : ℕ) (q : Piece) → back k (back 1 q) ≡ back (suc k) q
back-back k q = back_as q.backward k q refl
  where
    back_as : (b : Bool) (k : ℕ) (q : Piece) → q.backward ≡ b → back k (back 1 q) ≡ back (suc k) q
    back_as true k q e = let z : q.start - 1 - k ≡ q.start - suc k = omega arith in
        let y : q.len - 1 - k ≡ q.len - suc k = omega arith in rw (e, z, y) refl
    back_as false k q e = let z : q.start + 1 + k ≡ q.start + suc k = omega arith in
        let y : q.len - 1 - k ≡ q.len - suc k = omega arith in rw (e, z, y) refl

set-here : (xs : List Piece) (i : ℕ) (x : Piece) → x ≡ get_or xs i x → slice_set xs i x ≡ xs
set-here [] i x e = refl
set-here (y ∷ ys) zero x e = let z : x ≡ y = e in rw z refl
set-here (y ∷ ys) (suc i) x e = ap (λ t. y ∷ t) (set-here ys i x e)

set-twice : (xs : List Piece) (i : ℕ) (x y : Piece) →
    slice_set (slice_set xs i x) i y ≡ slice_set xs i y
set-twice [] i x y = refl
set-twice (z ∷ zs) zero x y = refl
set-twice (z ∷ zs) (suc i) x y = ap (λ t. z ∷ t) (set-twice zs i x y)

-- a piece at an index, and the one behind it, set twice
set-both : (xs : List Piece) (i : ℕ) (a b c d : Piece) →
    slice_set (slice_set (slice_set (slice_set xs i a) (suc i) b) i c) (suc i) d ≡ slice_set
    (slice_set xs i c) (suc i) d
set-both [] i a b c d = refl
set-both (z ∷ zs) zero a b c d = ap (λ t. c ∷ t) (set-twice zs 0 b d)
set-both (z ∷ zs) (suc i) a b c d = ap (λ t. z ∷ t) (set-both zs i a b c d)

get-first : (xs : List Piece) (i : ℕ) (a b d : Piece) → i < length xs →
    get_or (slice_set (slice_set xs i a) (suc i) b) i d ≡ a
get-first [] i a b d lt = absurd (omega (arith, lt))
get-first (z ∷ zs) zero a b d lt = refl
get-first (z ∷ zs) (suc i) a b d lt = get-first zs i a b d (omega (arith, lt))

get-second : (xs : List Piece) (i : ℕ) (a b d : Piece) → suc i < length xs →
    get_or (slice_set (slice_set xs i a) (suc i) b) (suc i) d ≡ b
get-second [] i a b d lt = absurd (omega (arith, lt))
get-second (z ∷ []) zero a b d lt = absurd (omega (arith, lt))
get-second (z ∷ y ∷ zs) zero a b d lt = refl
get-second (z ∷ zs) (suc i) a b d lt = get-second zs i a b d (omega (arith, lt))

length-set : (xs : List Piece) (i : ℕ) (a : Piece) → length (slice_set xs i a) ≡ length xs
length-set [] i a = refl
length-set (x ∷ xs) zero a = refl
length-set (x ∷ xs) (suc i) a = ap suc (length-set xs i a)

-- two items in place of others
pub length-both-set : (xs : List Piece) (i j : ℕ) (a b : Piece) →
    length (slice_set (slice_set xs i a) j b) ≡ length xs
length-both-set xs i j a b = trans (length-set (slice_set xs i a) j b) (length-set xs i a)

grown-grows : (a : ℕ) (p : Piece) → grows a p ≡ true → grows (a + 1) (grown p) ≡ true
grown-grows a p g = grows_as (p.start + p.len == a) p.start p.len a refl (grind (arith, g))
  where
    grows_as : (b : Bool) (s n a : ℕ) → (s + n == a) ≡ b → b ≡ true →
        (true && (s + (n + 1) == a + 1)) ≡ true
    grows_as b s n a e t = let z : s + n ≡ a = grind (arith, e, t) in grind (arith, z)

grown-more : (k : ℕ) (p : Piece) → grown_by k (grown p) ≡ grown_by (suc k) p
grown-more k p = let z : p.len + 1 + k ≡ p.len + suc k = omega arith in rw z refl

-- a border moved by so many at once is one moved by one, as often
pub record IsMoved (k place a i : ℕ) (ps xs : List Piece) : Type 0 where
  pub items : xs ≡ overwritten_span k place a ps
  pub hint : IsHint xs (suc i) (place + k)

moved_span : (k place a i begin : ℕ) (p q : Piece) (ps : List Piece) → Solid ps →
    IsHint ps (suc i) begin → begin ≡ place → place + suc k ≤ total ps → suc i < length ps →
    p ≡ get_or ps i p → q ≡ get_or ps (suc i) q → grows a p ≡ true → suc k < q.len →
    IsMoved (suc k) place a i ps
    (slice_set (slice_set ps i (grown_by (suc k) p)) (suc i) (back (suc k) q))
moved_span zero place a i begin p q ps s h b w lt e f g n =
    let z : suc i - 1 ≡ i = omega arith in
    let one : slice_set (slice_set ps i (grown p)) (suc i) (back 1 q) ≡ overwritten place a ps =
    rw z at (border-over place a (suc i) begin p q ps s h b (omega arith) lt (rw z e) f g
    (omega (arith, n))) in
    let index : suc i ≡ length (joined a (before place ps)) =
    border-index place a (suc i) begin p ps s h b (omega arith) (rw z e) g in
    let len = length-addresses ps in
    record {
      items = one;
      hint =
          overwritten-hint place a (suc i) ps _ one index (omega (arith, w, len));
    }
moved_span (suc k) place a i begin p q ps s h b w lt e f g n =
    let z : suc i - 1 ≡ i = omega arith in
    let one : slice_set (slice_set ps i (grown p)) (suc i) (back 1 q) ≡ overwritten place a ps =
    rw z at (border-over place a (suc i) begin p q ps s h b (omega arith) lt (rw z e) f g
    (omega (arith, n))) in
    let index : suc i ≡ length (joined a (before place ps)) =
    border-index place a (suc i) begin p ps s h b (omega arith) (rw z e) g in
    let len = length-addresses ps in
    let inside : place < length (addresses ps) = omega (arith, w, len) in
    let ps1 : List Piece = slice_set (slice_set ps i (grown p)) (suc i) (back 1 q) in
    let solid1 : Solid ps1 = rw one (overwritten-solid place a ps s) in
    let total1 : total ps1 ≡ total ps = rw one (overwritten-total place a ps (omega (arith, w))) in
    let long : length ps1 ≡ length ps = length-both-set ps i (suc i) (grown p) (back 1 q) in
    let next = moved_span k (place + 1) (a + 1) i (place + 1) (grown p) (back 1 q) ps1 solid1
    (overwritten-hint place a (suc i) ps ps1 one index inside) refl (omega (arith, w, total1))
    (omega (arith, lt, long))
    (sym (get-first ps i (grown p) (back 1 q) (grown p) (omega (arith, lt))))
    (sym (get-second ps i (grown p) (back 1 q) (back 1 q) lt)) (grown-grows a p g)
    (omega (arith, n)) in
    let first : slice_set (slice_set ps1 i (grown_by (suc k) (grown p))) (suc i)
    (back (suc k) (back 1 q)) ≡ slice_set (slice_set ps i (grown_by (suc (suc k)) p)) (suc i)
    (back (suc (suc k)) q) =
    trans (set-both ps i (grown p) (back 1 q) (grown_by (suc k) (grown p))
    (back (suc k) (back 1 q)))
    (ap₂ (λ x y. slice_set (slice_set ps i x) (suc i) y) (grown-more (suc k) p)
    (back-back (suc k) q)) in
    let y : place + 1 + suc k ≡ place + suc (suc k) = omega arith in
    record {
      items = trans (sym first)
          (trans next.items (ap (λ t. overwritten_span (suc k) (place + 1) (a + 1) t) one));
      hint = rw (first, y) at next.hint;
    }

-- a border moves up by so many
pub border_moved : (k place a i begin : ℕ) (p q : Piece) (ps : List Piece) → Solid ps →
    IsHint ps i begin → begin ≡ place → place + k ≤ total ps → 0 < i → i < length ps →
    p ≡ get_or ps (i - 1) p → q ≡ get_or ps i q → grows a p ≡ true → k < q.len → 1 ≤ k →
    IsMoved k place a (i - 1) ps (slice_set (slice_set ps (i - 1) (grown_by k p)) i (back k q))
border_moved zero place a i begin p q ps s h b w some lt e f g n one = absurd (omega (arith, one))
border_moved (suc k) place a zero begin p q ps s h b w some lt e f g n one =
    absurd (omega (arith, some))
border_moved (suc k) place a (suc i) begin p q ps s h b w some lt e f g n one =
    let z : suc i - 1 ≡ i = omega arith in
    rw z (moved_span k place a i begin p q ps s h b w lt (rw z at e) f g n)

-- the pieces of a row
pub span_items : (k place a i begin : ℕ) (p q : Piece) (ps : List Piece) → Solid ps →
    IsHint ps i begin → begin ≡ place → place + k ≤ total ps → 0 < i → i < length ps →
    p ≡ get_or ps (i - 1) p → q ≡ get_or ps i q → grows a p ≡ true → k < q.len → 1 ≤ k →
    slice_set (slice_set ps (i - 1) (grown_by k p)) i (back k q) ≡ overwritten_span k place a ps
span_items k place a i begin p q ps s h b w some lt e f g n one =
    (border_moved k place a i begin p q ps s h b w some lt e f g n one).items

-- a right hint behind a row
pub span_hint : (k place a i begin : ℕ) (p q : Piece) (ps : List Piece) → Solid ps →
    IsHint ps i begin → begin ≡ place → place + k ≤ total ps → 0 < i → i < length ps →
    p ≡ get_or ps (i - 1) p → q ≡ get_or ps i q → grows a p ≡ true → k < q.len → 1 ≤ k →
    IsHint (slice_set (slice_set ps (i - 1) (grown_by k p)) i (back k q)) i (begin + k)
span_hint k place a i begin p q ps s h b w some lt e f g n one =
    let y : suc (i - 1) ≡ i = omega (arith, some) in
    rw (y, sym b) at (border_moved k place a i begin p q ps s h b w some lt e f g n one).hint

-- a hint that stays
pub hint_still : (i begin : ℕ) (ps : List Piece) → IsHint ps i begin → IsHint ps i (begin + 0)
hint_still i begin ps h = let z : begin + 0 ≡ begin = omega arith in rw z h

-- what a span keeps
pub span-total : (k place a : ℕ) (ps : List Piece) → place + k ≤ total ps →
    total (overwritten_span k place a ps) ≡ total ps
span-total zero place a ps le = refl
span-total (suc k) place a ps le =
    let one = overwritten-total place a ps (omega (arith, le)) in
    trans (span-total k (place + 1) (a + 1) (overwritten place a ps) (omega (arith, le, one))) one

-- a row leaves no empty piece
pub span-solid : (k place a : ℕ) (ps : List Piece) → Solid ps →
    Solid (overwritten_span k place a ps)
span-solid zero place a ps s = s
span-solid (suc k) place a ps s =
    span-solid k (place + 1) (a + 1) (overwritten place a ps) (overwritten-solid place a ps s)

pub ruleset spans =
    (two-within, length-both-set, span_items, span_hint, hint_still, span-total, span-solid)
