-- The border of two pieces, moved by one address: one of them grows, and the other loses it.
use Rattle.std.proofs.Common.{◌≡◌, ◌≤◌, ◌<◌, ℕ, ◌+◌, ◌-◌, ◌==◌, nat_lt, true, false, List, [], ◌∷◌, ◌++◌, length, refl, sym, ap, arith, get_or, take, drop, suc, zero}
use Rattle.std.specs.Prelude.{slice_set}
use Rattle.pieces.specs.Pieces.{Piece, Solid, total}
use Rattle.pieces.specs.Splitting.{IsHint, back, before, behind, front}
use Rattle.pieces.specs.OneMore.{grown, grown_down, grows, grows_down, inserted, joined, joined_on, overwritten, overwritten_backward}
use Rattle.pieces.proofs.SplittingLemmas.{take-whole}
use Rattle.pieces.proofs.OneMoreLemmas.{index-grown, join-grown, behind-none}

-- two pieces that follow one another have no more addresses than all have
pub two-within : (k : ℕ) (p q : Piece) (ps : List Piece) → 0 < k → k < length ps →
    p ≡ get_or ps (k - 1) p → q ≡ get_or ps k q → p.len + q.len ≤ total ps
two-within zero p q ps lt le e f = absurd (omega (arith, lt))
two-within (suc k) p q [] lt le e f = absurd (omega (arith, le))
two-within (suc zero) p q (x ∷ []) lt le e f = absurd (omega (arith, le))
two-within (suc zero) p q (x ∷ y ∷ ps) lt le e f = let a : p ≡ x = e in let b : q ≡ y = f in
    rw (a, b) (omega arith)
two-within (suc (suc k)) p q (x ∷ ps) lt le e f =
    let z : suc (suc k) - 1 ≡ suc k = omega arith in
    let y : suc k - 1 ≡ k = omega arith in
    let g : p ≡ get_or ps k p = rw z at e in
    let h = two-within (suc k) p q ps (omega arith) (omega (arith, le)) (rw y g) f in
    omega (arith, h)

-- a list of pieces, split where one of them begins
before-here : (p : Piece) (ps : List Piece) → 1 ≤ p.len → before 0 (p ∷ ps) ≡ []
before-here p ps le = let t : nat_lt 0 p.len ≡ true = grind (arith, le) in rw t refl

before-at : (k place : ℕ) (ps : List Piece) → Solid ps → k ≤ length ps → total (take k ps) ≡ place →
    before place ps ≡ take k ps
before-at zero place [] s le e = refl
before-at zero place (p ∷ ps) s le e = let z : place ≡ 0 = omega (arith, e) in
    rw z (before-here p ps s.0)
before-at (suc k) place [] s le e = absurd (omega (arith, le))
before-at (suc k) place (p ∷ ps) s le e =
    let t : nat_lt place p.len ≡ false = grind (arith, e) in
    rw t (ap (λ r. p ∷ r)
    (before-at k (place - p.len) ps s.1 (omega (arith, le)) (omega (arith, e))))

behind-at : (k place : ℕ) (ps : List Piece) → Solid ps → k ≤ length ps → total (take k ps) ≡ place →
    behind place ps ≡ drop k ps
behind-at zero place ps s le e = let z : place ≡ 0 = omega (arith, e) in rw z (behind-none ps s)
behind-at (suc k) place [] s le e = absurd (omega (arith, le))
behind-at (suc k) place (p ∷ ps) s le e =
    let t : nat_lt place p.len ≡ false = grind (arith, e) in
    rw t (behind-at k (place - p.len) ps s.1 (omega (arith, le)) (omega (arith, e)))

-- the piece before grows
over-at : (k a : ℕ) (x p q : Piece) (ps : List Piece) → k < length ps → p ≡ get_or (x ∷ ps) k p →
    q ≡ get_or ps k q → grows a p ≡ true → 1 < q.len → slice_set (slice_set (x ∷ ps) k (grown p))
    (suc k) (back 1 q) ≡ joined_on a x (take k ps) ++ behind 1 (drop k ps)
over-at k a x p q [] lt e f g n = absurd (omega (arith, lt))
over-at zero a x p q (y ∷ ps) lt e f g n =
    let h : p ≡ x = e in
    let i : q ≡ y = f in
    let t : nat_lt 1 q.len ≡ true = grind (arith, n) in
    rw (sym h, sym i, g, t) refl
over-at (suc k) a x p q (y ∷ ps) lt e f g n =
    ap (λ r. x ∷ r) (over-at k a y p q ps (omega (arith, lt)) e f g n)

over-parts : (k a : ℕ) (p q : Piece) (ps : List Piece) → 0 < k → k < length ps →
    p ≡ get_or ps (k - 1) p → q ≡ get_or ps k q → grows a p ≡ true → 1 < q.len →
    slice_set (slice_set ps (k - 1) (grown p)) k (back 1 q) ≡ joined a (take k ps)
    ++ behind 1 (drop k ps)
over-parts zero a p q ps lt le e f g n = absurd (omega (arith, lt))
over-parts (suc k) a p q [] lt le e f g n = absurd (omega (arith, le))
over-parts (suc k) a p q (x ∷ ps) lt le e f g n = let z : suc k - 1 ≡ k = omega arith in
    rw z (over-at k a x p q ps (omega (arith, le)) (rw z at e) f g n)

-- a border moves up by one
pub border-over : (place a k begin : ℕ) (p q : Piece) (ps : List Piece) → Solid ps →
    IsHint ps k begin → begin ≡ place → 0 < k → k < length ps → p ≡ get_or ps (k - 1) p →
    q ≡ get_or ps k q → grows a p ≡ true → 1 < q.len →
    slice_set (slice_set ps (k - 1) (grown p)) k (back 1 q) ≡ overwritten place a ps
border-over place a k begin p q ps s h b lt le e f g n =
    let t : total (take k ps) ≡ place = rw (sym b) h.begins in
    rw (before-at k place ps s h.within t, behind-at k place ps s h.within t)
    (over-parts k a p q ps lt le e f g n)

-- where the piece before the border grows
pub border-index : (place a k begin : ℕ) (p : Piece) (ps : List Piece) → Solid ps →
    IsHint ps k begin → begin ≡ place → 0 < k → p ≡ get_or ps (k - 1) p → grows a p ≡ true →
    k ≡ length (joined a (before place ps))
border-index place a k begin p ps s h b lt e g =
    let t : total (take k ps) ≡ place = rw (sym b) h.begins in
    rw (before-at k place ps s h.within t) (sym (index-grown k a p ps lt h.within e g))

pub ruleset over = (two-within, border-over, border-index)

-- the piece behind grows down
front-part : (place : ℕ) (x : Piece) (ps : List Piece) → 1 < x.len → x.len ≡ place + 1 →
    before place (x ∷ ps) ≡ front place x ∷ []
front-part place x ps n e =
    let t : nat_lt place x.len ≡ true = grind (arith, e) in
    let u : (place == 0) ≡ false = grind (arith, e, n) in
    rw (t, u) refl

back-part : (place : ℕ) (x : Piece) (ps : List Piece) → Solid ps → 1 < x.len → x.len ≡ place + 1 →
    behind 1 (behind place (x ∷ ps)) ≡ ps
back-part place x ps s n e =
    let t : nat_lt place x.len ≡ true = grind (arith, e) in
    let u : (place == 0) ≡ false = grind (arith, e, n) in
    let v : x.len - place ≡ 1 = omega (arith, e) in
    rw (t, u, v) (behind-none ps s)

taken-some : (k : ℕ) (p : Piece) (ps : List Piece) → k < length ps → p ≡ get_or ps k p →
    p.len ≤ total (take (suc k) ps)
taken-some k p [] lt e = absurd (omega (arith, lt))
taken-some zero p (x ∷ ps) lt e = let h : p ≡ x = e in rw h (omega arith)
taken-some (suc k) p (x ∷ ps) lt e = let h = taken-some k p ps (omega (arith, lt)) e in
    omega (arith, h)

down-at : (k a place : ℕ) (p q : Piece) (ps : List Piece) → Solid ps → suc k < length ps →
    total (take (suc k) ps) ≡ place + 1 → p ≡ get_or ps k p → q ≡ get_or ps (suc k) q → 1 < p.len →
    grows_down a q ≡ true → slice_set (slice_set ps k (front (p.len - 1) p)) (suc k) (grown_down q)
    ≡ overwritten_backward place a ps
down-at k a place p q [] s lt t e f n g = absurd (omega (arith, lt))
down-at zero a place p q (x ∷ []) s lt t e f n g = absurd (omega (arith, lt))
down-at zero a place p q (x ∷ y ∷ ps) s lt t e f n g =
    let h : p ≡ x = e in
    let i : q ≡ y = f in
    let m : 1 < x.len = rw h at n in
    let l : x.len ≡ place + 1 = omega (arith, t) in
    let z : x.len - 1 ≡ place = omega (arith, l) in
    let d : grows_down a y ≡ true = rw i at g in
    rw (front-part place x (y ∷ ps) m l, back-part place x (y ∷ ps) s.1 m l, d, h, i, z) refl
down-at (suc k) a place p q (x ∷ ps) s lt t e f n g =
    let m = taken-some k p ps (omega (arith, lt)) e in
    let w : nat_lt place x.len ≡ false = grind (arith, t, m, n) in
    let u : total (take (suc k) ps) ≡ (place - x.len) + 1 = omega (arith, t, m, n) in
    rw w (ap (λ r. x ∷ r) (down-at k a (place - x.len) p q ps s.1 (omega (arith, lt)) u e f n g))

down-length : (k place : ℕ) (p : Piece) (ps : List Piece) → k < length ps →
    total (take (suc k) ps) ≡ place + 1 → p ≡ get_or ps k p → 1 < p.len →
    suc k ≡ length (before place ps)
down-length k place p [] lt t e n = absurd (omega (arith, lt))
down-length zero place p (x ∷ ps) lt t e n =
    let h : p ≡ x = e in
    rw (front-part place x ps (rw h at n) (omega (arith, t))) refl
down-length (suc k) place p (x ∷ ps) lt t e n =
    let m = taken-some k p ps (omega (arith, lt)) e in
    let w : nat_lt place x.len ≡ false = grind (arith, t, m, n) in
    let u : total (take (suc k) ps) ≡ (place - x.len) + 1 = omega (arith, t, m, n) in
    rw w (ap (λ r. suc r) (down-length k (place - x.len) p ps (omega (arith, lt)) u e n))

-- a border moves down by one
pub border-down : (place a k begin : ℕ) (p q : Piece) (ps : List Piece) → Solid ps →
    IsHint ps k begin → begin ≡ place + 1 → 0 < k → k < length ps → p ≡ get_or ps (k - 1) p →
    q ≡ get_or ps k q → 1 < p.len → grows_down a q ≡ true →
    slice_set (slice_set ps (k - 1) (front (p.len - 1) p)) k (grown_down q) ≡ overwritten_backward
    place a ps
border-down place a zero begin p q ps s h b lt le e f n g = absurd (omega (arith, lt))
border-down place a (suc k) begin p q ps s h b lt le e f n g =
    let z : suc k - 1 ≡ k = omega arith in
    rw z (down-at k a place p q ps s le (rw (sym b) h.begins) (rw z at e) f n g)

-- where the piece behind it grows down
pub down-index : (place k begin : ℕ) (p : Piece) (ps : List Piece) → IsHint ps k begin →
    begin ≡ place + 1 → 0 < k → k < length ps → p ≡ get_or ps (k - 1) p → 1 < p.len →
    k ≡ length (before place ps)
down-index place zero begin p ps h b lt le e n = absurd (omega (arith, lt))
down-index place (suc k) begin p ps h b lt le e n =
    let z : suc k - 1 ≡ k = omega arith in
    down-length k place p ps (omega (arith, le)) (rw (sym b) h.begins) (rw z at e) n

pub ruleset down = (two-within, border-down, down-index)

-- the piece before a place grows, where one begins there
pub grown-over : (place a k begin : ℕ) (ps xs : List Piece) → Solid ps → IsHint ps k begin →
    begin ≡ place → xs ≡ joined a (take k ps) ++ drop k ps → xs ≡ inserted place a ps
grown-over place a k begin ps xs s h b e =
    let t : total (take k ps) ≡ place = rw (sym b) h.begins in
    rw (before-at k place ps s h.within t, behind-at k place ps s h.within t) e

-- the index behind a piece that grew
pub grown-index : (place a k begin : ℕ) (ps : List Piece) → Solid ps → IsHint ps k begin →
    begin ≡ place → k ≡ length (joined a (take k ps)) → k ≡ length (joined a (before place ps))
grown-index place a k begin ps s h b e =
    let t : total (take k ps) ≡ place = rw (sym b) h.begins in
    rw (before-at k place ps s h.within t) e

-- and so of a part of the list
pub index-grown-too : (k a : ℕ) (p : Piece) (xs : List Piece) → 0 < k → k ≤ length xs →
    p ≡ get_or xs (k - 1) p → grows a p ≡ true → k ≡ length (joined a (take k xs))
index-grown-too k a p xs lt le e g = sym (index-grown k a p xs lt le e g)

-- and at its end
pub grown-last-index : (a k : ℕ) (ps : List Piece) → k ≡ length ps →
    k ≡ length (joined a (take k ps)) → k ≡ length (joined a ps)
grown-last-index a k ps n e = let h : take k ps ≡ ps = rw n (take-whole ps) in rw h at e

pub ruleset grows_on = (join-grown, index-grown-too)

pub ruleset grown_at = (grown-over, grown-index, grown-last-index)
