-- Pieces with an address more.
use Rattle.std.proofs.Common.{◌≡◌, ◌≤◌, ◌<◌, ℕ, ◌+◌, ◌-◌, ◌==◌, nat_lt, Bool, true, false, not, ◌||◌, ◌&&◌, if◌then◌else◌, List, [], ◌∷◌, ◌++◌, length, refl, sym, ap, arith, get_or, set, take, drop, suc, zero, map, length-append, append_assoc}
use Rattle.std.proofs.lemmas.Grind.{common_steps}
use Rattle.std.specs.Prelude.{slice_set}
use Rattle.std.specs.List.{insert, range_with_len}
use Rattle.std.proofs.Math.Seq.{take-append_seam, drop-append_seam}
use Rattle.std.proofs.lemmas.List.FromFn.{map-range_with_len_more}
use Rattle.std.proofs.lemmas.List.{append-nil}
use Rattle.std.specs.List.{remove}
use Rattle.pieces.proofs.SplittingLemmas.{length-split, length-piece, total-behind, before-past, behind-past, total-before, total-append, split_same, before_same, take-whole, len-within, hint-end, get-more}
use Rattle.pieces.proofs.AddressLemmas.{addresses-append, addresses-before, addresses-behind, set-by-parts, length-addresses, length-behind, length-before}
use Rattle.pieces.specs.Pieces.{Piece, Solid, address_in, addresses, piece_addresses, total}
use Rattle.pieces.specs.Splitting.{IsHint, back, before, behind, front, offset, pieces_before, split}
use Rattle.pieces.specs.OneMore.{Continues, ends, ends_on, grown, grows, inserted, joined, joined_on, one, overwritten}

-- at an index
grown-at : (k a : ℕ) (q p : Piece) (xs : List Piece) → k ≤ length xs → p ≡ get_or (q ∷ xs) k p →
    grows a p ≡ true → set (q ∷ xs) k (grown p) ≡ joined_on a q (take k xs) ++ drop k xs
grown-at zero a q p xs le e g = let z : p ≡ q = e in rw (sym z, g) refl
grown-at (suc k) a q p [] le e g = grind arith
grown-at (suc k) a q p (x ∷ xs) le e g =
    ap (λ t. q ∷ t) (grown-at k a x p xs (omega (arith, le)) e g)

put-at : (k a : ℕ) (q p : Piece) (xs : List Piece) → k ≤ length xs → p ≡ get_or (q ∷ xs) k p →
    grows a p ≡ false → insert (q ∷ xs) (suc k) (one a) ≡ joined_on a q (take k xs) ++ drop k xs
put-at zero a q p xs le e g = let z : p ≡ q = e in rw (sym z, g) refl
put-at (suc k) a q p [] le e g = grind arith
put-at (suc k) a q p (x ∷ xs) le e g = ap (λ t. q ∷ t) (put-at k a x p xs (omega (arith, le)) e g)

-- the piece in front grows
pub join-grown : (k a : ℕ) (p : Piece) (xs : List Piece) → 0 < k → k ≤ length xs →
    p ≡ get_or xs (k - 1) p → grows a p ≡ true →
    set xs (k - 1) (grown p) ≡ joined a (take k xs) ++ drop k xs
join-grown zero a p xs lt le e g = grind arith
join-grown (suc k) a p [] lt le e g = grind arith
join-grown (suc k) a p (x ∷ xs) lt le e g = let z : suc k - 1 ≡ k = omega arith in
    let f = rw z at e in rw z (grown-at k a x p xs (omega (arith, le)) f g)

-- or a piece comes behind it
pub join-put : (k a : ℕ) (p : Piece) (xs : List Piece) → 0 < k → k ≤ length xs →
    p ≡ get_or xs (k - 1) p → grows a p ≡ false →
    insert xs k (one a) ≡ joined a (take k xs) ++ drop k xs
join-put zero a p xs lt le e g = grind arith
join-put (suc k) a p [] lt le e g = grind arith
join-put (suc k) a p (x ∷ xs) lt le e g = let z : suc k - 1 ≡ k = omega arith in
    let f = rw z at e in put-at k a x p xs (omega (arith, le)) f g

-- how many pieces there are up to the new address
index-on-grown : (k a : ℕ) (q p : Piece) (xs : List Piece) → k ≤ length xs →
    p ≡ get_or (q ∷ xs) k p → grows a p ≡ true → length (joined_on a q (take k xs)) ≡ suc k
index-on-grown zero a q p xs le e g = let z : p ≡ q = e in rw (sym z, g) refl
index-on-grown (suc k) a q p [] le e g = grind arith
index-on-grown (suc k) a q p (x ∷ xs) le e g =
    ap (λ t. suc t) (index-on-grown k a x p xs (omega (arith, le)) e g)

index-on-put : (k a : ℕ) (q p : Piece) (xs : List Piece) → k ≤ length xs → p ≡ get_or (q ∷ xs) k p →
    grows a p ≡ false → length (joined_on a q (take k xs)) ≡ suc (suc k)
index-on-put zero a q p xs le e g = let z : p ≡ q = e in rw (sym z, g) refl
index-on-put (suc k) a q p [] le e g = grind arith
index-on-put (suc k) a q p (x ∷ xs) le e g =
    ap (λ t. suc t) (index-on-put k a x p xs (omega (arith, le)) e g)

-- a piece that grew is one of as many
pub index-grown : (k a : ℕ) (p : Piece) (xs : List Piece) → 0 < k → k ≤ length xs →
    p ≡ get_or xs (k - 1) p → grows a p ≡ true → length (joined a (take k xs)) ≡ k
index-grown zero a p xs lt le e g = grind arith
index-grown (suc k) a p [] lt le e g = grind arith
index-grown (suc k) a p (x ∷ xs) lt le e g = let z : suc k - 1 ≡ k = omega arith in
    let f = rw z at e in index-on-grown k a x p xs (omega (arith, le)) f g

-- a piece that came is one more
pub index-put : (k a : ℕ) (p : Piece) (xs : List Piece) → 0 < k → k ≤ length xs →
    p ≡ get_or xs (k - 1) p → grows a p ≡ false → length (joined a (take k xs)) ≡ k + 1
index-put zero a p xs lt le e g = grind arith
index-put (suc k) a p [] lt le e g = grind arith
index-put (suc k) a p (x ∷ xs) lt le e g = let z : suc k - 1 ≡ k = omega arith in
    let f = rw z at e in let m : suc k + 1 ≡ suc (suc k) = omega arith in
    rw m (index-on-put k a x p xs (omega (arith, le)) f g)

pub ruleset joins = (join-grown, join-put, index-grown, index-put, len-within)

-- the pieces of an overwriting, by its steps
pub overwritten-steps : (place a k : ℕ) (ps one_ two three : List Piece) → one_ ≡ split place ps →
    k ≡ length (before place ps) → two ≡ take k one_ ++ behind 1 (drop k one_) →
    three ≡ joined a (take k two) ++ drop k two → three ≡ overwritten place a ps
overwritten-steps place a k ps s t u e1 e2 e3 e4 =
    let t1 : t ≡ before place ps ++ behind 1 (behind place ps) =
    rw (
      e3,
      e1,
      e2,
      take-append_seam (before place ps) (behind place ps),
      drop-append_seam (before place ps) (behind place ps),
    ) refl in
    rw (
      e4,
      t1,
      e2,
      take-append_seam (before place ps) (behind 1 (behind place ps)),
      drop-append_seam (before place ps) (behind 1 (behind place ps)),
    ) refl

-- a grown piece has one address more
pub grown-steps : (s n : ℕ) (b : Bool) (a : ℕ) → ((not b || n == 1) && (s + n == a)) ≡ true →
    map (λ k. s + k) (range_with_len 0 (n + 1)) ≡ map
    (address_in (record { start = s; len = n; backward = b })) (range_with_len 0 n) ++ a ∷ []
grown-steps s n false a g =
    let e : s + n ≡ a = grind (arith, g) in
    rw (sym e) (map-range_with_len_more (λ k. s + k) 0 n n (omega arith))
grown-steps s n true a g =
    let e : n ≡ 1 = grind (arith, g) in
    let f : s + 1 ≡ a = grind (arith, g) in
    let x : s + 0 ≡ s - 0 = omega arith in
    rw (e, x, f) refl

joined-here : (b : Bool) (a : ℕ) (p : Piece) → grows a p ≡ b →
    addresses (if b then grown p ∷ [] else p ∷ one a ∷ []) ≡ (piece_addresses p ++ []) ++ a ∷ []
joined-here true a p g =
    rw (
      grown-steps p.start p.len p.backward a g,
      append-nil (piece_addresses p ++ a ∷ []),
      append-nil (piece_addresses p),
    ) refl
joined-here false a p g = let z : a + 0 ≡ a = omega arith in
    rw (z, append-nil (piece_addresses p)) refl

joined-on-addresses : (a : ℕ) (p : Piece) (ps : List Piece) →
    addresses (joined_on a p ps) ≡ addresses (p ∷ ps) ++ a ∷ []
joined-on-addresses a p [] = joined-here (grows a p) a p refl
joined-on-addresses a p (q ∷ ps) = rw (joined-on-addresses a q ps)
    (sym (append_assoc (piece_addresses p) (addresses (q ∷ ps)) (a ∷ [])))

-- one address more behind
pub joined-addresses : (a : ℕ) (ps : List Piece) → addresses (joined a ps) ≡ addresses ps ++ a ∷ []
joined-addresses a [] = let z : a + 0 ≡ a = omega arith in rw z refl
joined-addresses a (p ∷ ps) = joined-on-addresses a p ps

joined-on-total : (a : ℕ) (p : Piece) (ps : List Piece) →
    total (joined_on a p ps) ≡ p.len + total ps + 1
joined-on-total a p [] = grind arith
joined-on-total a p (q ∷ ps) = let h = joined-on-total a q ps in omega (arith, h)

-- one more
pub joined-total : (a : ℕ) (ps : List Piece) → total (joined a ps) ≡ total ps + 1
joined-total a [] = omega arith
joined-total a (p ∷ ps) = let h = joined-on-total a p ps in omega (arith, h)

joined-on-length : (a : ℕ) (p : Piece) (ps : List Piece) →
    length (joined_on a p ps) ≡ (if ends_on a p ps then length ps + 1 else length ps + 2)
joined-on-length a p [] = grind arith
joined-on-length a p (q ∷ ps) = let h = joined-on-length a q ps in grind (arith, h)

-- a piece more, unless the last one grows
pub joined-length : (a : ℕ) (ps : List Piece) →
    length (joined a ps) ≡ (if ends a ps then length ps else length ps + 1)
joined-length a [] = refl
joined-length a (p ∷ ps) = let h = joined-on-length a p ps in grind (arith, h)

grown-ends : (b : Bool) (a : ℕ) (p : Piece) → grows a p ≡ b →
    ends (a + 1) (if b then grown p ∷ [] else p ∷ one a ∷ []) ≡ true
grown-ends true a p g = grind (arith, common_steps, g)
grown-ends false a p g = grind (arith, common_steps)

ends-later : (b : Bool) (c a : ℕ) (p q : Piece) →
    ends_on c p (if b then grown q ∷ [] else q ∷ one a ∷ []) ≡ ends c (if b then grown q ∷ [] else
    q ∷ one a ∷ [])
ends-later true c a p q = refl
ends-later false c a p q = refl

ends-on-joined : (c a : ℕ) (p q : Piece) (ps : List Piece) →
    ends_on c p (joined_on a q ps) ≡ ends c (joined_on a q ps)
ends-on-joined c a p q [] = ends-later (grows a q) c a p q
ends-on-joined c a p q (r ∷ ps) = refl

joined-on-ends : (a : ℕ) (p : Piece) (ps : List Piece) → ends (a + 1) (joined_on a p ps) ≡ true
joined-on-ends a p [] = grown-ends (grows a p) a p refl
joined-on-ends a p (q ∷ ps) = rw (ends-on-joined (a + 1) a p q ps) (joined-on-ends a q ps)

-- the next address goes on from it
pub joined-ends : (a : ℕ) (ps : List Piece) → ends (a + 1) (joined a ps) ≡ true
joined-ends a [] = grind (arith, common_steps)
joined-ends a (p ∷ ps) = joined-on-ends a p ps

joined-solid-here : (b : Bool) (a : ℕ) (p : Piece) → 1 ≤ p.len →
    Solid (if b then grown p ∷ [] else p ∷ one a ∷ [])
joined-solid-here true a p le = (omega arith, tt)
joined-solid-here false a p le = (le, (omega arith, tt))

joined-on-solid : (a : ℕ) (p : Piece) (ps : List Piece) → 1 ≤ p.len → Solid ps →
    Solid (joined_on a p ps)
joined-on-solid a p [] le s = joined-solid-here (grows a p) a p le
joined-on-solid a p (q ∷ ps) le s = (le, joined-on-solid a q ps s.0 s.1)

-- no empty piece comes
pub joined-solid : (a : ℕ) (ps : List Piece) → Solid ps → Solid (joined a ps)
joined-solid a [] s = (omega arith, tt)
joined-solid a (p ∷ ps) s = joined-on-solid a p ps s.0 s.1

-- there are no more pieces before a place
pub before-few : (place : ℕ) (ps : List Piece) → place ≤ total ps →
    length (before place ps) ≤ length ps
before-few place [] le = omega arith
before-few place (p ∷ ps) le = grind (arith, common_steps, before-few (place - p.len) ps)

before-solid-here : (b c : Bool) (place : ℕ) (p : Piece) (rest : List Piece) →
    (c ≡ false → 1 ≤ place) → 1 ≤ p.len → Solid rest →
    Solid (if b then (if c then [] else front place p ∷ []) else p ∷ rest)
before-solid-here true true place p rest f le s = tt
before-solid-here true false place p rest f le s = (f refl, tt)
before-solid-here false c place p rest f le s = (le, s)

-- nor is one of them empty
pub solid-before : (place : ℕ) (ps : List Piece) → Solid ps → Solid (before place ps)
solid-before place [] s = tt
solid-before place (p ∷ ps) s = before-solid-here (nat_lt place p.len) (place == 0) place p
    (before (place - p.len) ps) (λ e. grind (arith, e)) s.0 (solid-before (place - p.len) ps s.1)

behind-solid-here : (b c : Bool) (place : ℕ) (p : Piece) (ps rest : List Piece) →
    (b ≡ true → place < p.len) → Solid (p ∷ ps) → Solid rest →
    Solid (if b then (if c then p ∷ ps else back place p ∷ ps) else rest)
behind-solid-here true true place p ps rest f s r = s
behind-solid-here true false place p ps rest f s r =
    (let lt : place < p.len = f refl in omega (arith, lt), s.1)
behind-solid-here false c place p ps rest f s r = r

-- nor one of those behind
pub solid-behind : (place : ℕ) (ps : List Piece) → Solid ps → Solid (behind place ps)
solid-behind place [] s = tt
solid-behind place (p ∷ ps) s = behind-solid-here (nat_lt place p.len) (place == 0) place p ps
    (behind (place - p.len) ps) (λ e. grind (arith, e)) s (solid-behind (place - p.len) ps s.1)

-- the pieces before a place, of a split list
pub cut-before : (place : ℕ) (ps : List Piece) →
    take (length (before place ps)) (split place ps) ≡ before place ps
cut-before place ps = take-append_seam (before place ps) (behind place ps)

pub ruleset lengths =
    (length-addresses, before-few, solid-before, cut-before, addresses-before, total-before)

-- what an address more does to the list of addresses, to the total and to the number of pieces
insert-by-parts : (xs : List ℕ) (i x : ℕ) → i ≤ length xs →
    (take i xs ++ x ∷ []) ++ drop i xs ≡ insert xs i x
insert-by-parts [] zero x le = refl
insert-by-parts [] (suc i) x le = grind arith
insert-by-parts (y ∷ ys) zero x le = refl
insert-by-parts (y ∷ ys) (suc i) x le = ap (λ t. y ∷ t) (insert-by-parts ys i x (omega (arith, le)))

-- one fewer of the rest
pub drop-drop : (xs : List ℕ) (i : ℕ) → drop 1 (drop i xs) ≡ drop (i + 1) xs
drop-drop xs zero = refl
drop-drop [] (suc i) = let e : suc i + 1 ≡ suc (i + 1) = omega arith in rw e refl
drop-drop (x ∷ xs) (suc i) = let e : suc i + 1 ≡ suc (i + 1) = omega arith in rw e (drop-drop xs i)

-- one address in place of another
pub overwritten-addresses : (place a : ℕ) (ps : List Piece) → place < total ps →
    addresses (overwritten place a ps) ≡ slice_set (addresses ps) place a
overwritten-addresses place a ps lt =
    let le : place ≤ total ps = omega (arith, lt) in
    let n = length-addresses ps in
    let t = total-behind place ps le in
    let h = set-by-parts (addresses ps) place a (omega (arith, n, lt)) in
    rw (
      addresses-append (joined a (before place ps)) (behind 1 (behind place ps)),
      joined-addresses a (before place ps),
      addresses-before place ps le,
      addresses-behind 1 (behind place ps) (omega (arith, t, lt)),
      addresses-behind place ps le,
      drop-drop (addresses ps) place,
      append_assoc (take place (addresses ps)) (a ∷ []) (drop (place + 1) (addresses ps)),
    ) h

-- one address before another
pub inserted-addresses : (place a : ℕ) (ps : List Piece) → place ≤ total ps →
    addresses (inserted place a ps) ≡ insert (addresses ps) place a
inserted-addresses place a ps le =
    let n = length-addresses ps in
    rw (
      addresses-append (joined a (before place ps)) (behind place ps),
      joined-addresses a (before place ps),
      addresses-before place ps le,
      addresses-behind place ps le,
    ) (insert-by-parts (addresses ps) place a (omega (arith, n, le)))

-- a write over changes no length
pub overwritten-total : (place a : ℕ) (ps : List Piece) → place < total ps →
    total (overwritten place a ps) ≡ total ps
overwritten-total place a ps lt =
    let le : place ≤ total ps = omega (arith, lt) in
    let t = total-behind place ps le in
    let u = total-behind 1 (behind place ps) (omega (arith, t, lt)) in
    let b = total-before place ps le in
    let j = joined-total a (before place ps) in
    let s = total-append (joined a (before place ps)) (behind 1 (behind place ps)) in
    omega (arith, t, u, b, j, s)

-- an insertion adds one
pub inserted-total : (place a : ℕ) (ps : List Piece) → place ≤ total ps →
    total (inserted place a ps) ≡ total ps + 1
inserted-total place a ps le =
    let t = total-behind place ps le in
    let b = total-before place ps le in
    let j = joined-total a (before place ps) in
    let s = total-append (joined a (before place ps)) (behind place ps) in
    omega (arith, t, b, j, s)

-- two lists without an empty piece
pub solid-append : (ps qs : List Piece) → Solid ps → Solid qs → Solid (ps ++ qs)
solid-append [] qs s t = t
solid-append (p ∷ ps) qs s t = (s.0, solid-append ps qs s.1 t)

-- a write over leaves no empty piece
pub overwritten-solid : (place a : ℕ) (ps : List Piece) → Solid ps → Solid (overwritten place a ps)
overwritten-solid place a ps s =
    solid-append (joined a (before place ps)) (behind 1 (behind place ps))
    (joined-solid a (before place ps) (solid-before place ps s))
    (solid-behind 1 (behind place ps) (solid-behind place ps s))

-- nor does an insertion
pub inserted-solid : (place a : ℕ) (ps : List Piece) → Solid ps → Solid (inserted place a ps)
inserted-solid place a ps s = solid-append (joined a (before place ps)) (behind place ps)
    (joined-solid a (before place ps) (solid-before place ps s)) (solid-behind place ps s)

-- the next address goes on from what was written
pub offset-past : (xs ys : List Piece) (c place : ℕ) → total xs + c ≡ place →
    offset place (xs ++ ys) ≡ offset c ys
offset-past [] ys c place e = let z : place ≡ c = omega (arith, e) in rw z refl
offset-past (x ∷ xs) ys c place e = let h =
    offset-past xs ys c (place - x.len) (omega (arith, e)) in grind (arith, common_steps, h)

-- the front is the begin of a piece
pub offset-none : (ys : List Piece) → Solid ys → offset 0 ys ≡ 0
offset-none [] s = refl
offset-none (y ∷ ys) s = grind (arith, s.0)

-- before it there is nothing
pub before-none : (ys : List Piece) → Solid ys → before 0 ys ≡ []
before-none [] s = refl
before-none (y ∷ ys) s = grind (arith, s.0)

continues-past : (xs ys : List Piece) (a place : ℕ) → total xs ≡ place → Solid ys →
    ends a xs ≡ true →
    Continues place a (xs ++ ys)
continues-past xs ys a place e s t =
    let z : total xs + 0 ≡ place = omega (arith, e) in
    let b : before place (xs ++ ys) ≡ xs =
    rw (before-past xs ys 0 place z, before-none ys s) (append-nil xs) in
    record { begins = rw (offset-past xs ys 0 place z) (offset-none ys s); ends = rw b t }

-- the next write goes on from one over another
pub overwritten-continues : (place a : ℕ) (ps : List Piece) → place < total ps → Solid ps →
    Continues (place + 1) (a + 1) (overwritten place a ps)
overwritten-continues place a ps lt s =
    let b = total-before place ps (omega (arith, lt)) in
    let j = joined-total a (before place ps) in
    continues-past (joined a (before place ps)) (behind 1 (behind place ps)) (a + 1) (place + 1)
    (omega (arith, b, j)) (solid-behind 1 (behind place ps) (solid-behind place ps s))
    (joined-ends a (before place ps))

-- and from an insertion
pub inserted-continues : (place a : ℕ) (ps : List Piece) → place ≤ total ps → Solid ps →
    Continues (place + 1) (a + 1) (inserted place a ps)
inserted-continues place a ps le s =
    let b = total-before place ps le in
    let j = joined-total a (before place ps) in
    continues-past (joined a (before place ps)) (behind place ps) (a + 1) (place + 1)
    (omega (arith, b, j)) (solid-behind place ps s) (joined-ends a (before place ps))

-- and from one behind all
pub joined-continues : (a n : ℕ) (ps : List Piece) → n ≡ total ps →
    Continues (n + 1) (a + 1) (joined a ps)
joined-continues a n ps e =
    let j = joined-total a ps in
    let r = continues-past (joined a ps) [] (a + 1) (n + 1) (omega (arith, e, j)) tt
    (joined-ends a ps) in
    rw (append-nil (joined a ps)) at r

-- the same of the list that a write left
pub overwritten-continues-at : (place a : ℕ) (ps ps' : List Piece) → ps' ≡ overwritten place a ps →
    place < length (addresses ps) → Solid ps → Continues (place + 1) (a + 1) ps'
overwritten-continues-at place a ps ps' e lt s =
    rw e (overwritten-continues place a ps (let n = length-addresses ps in omega (arith, lt, n)) s)

-- and that an insertion left
pub inserted-continues-at : (place a : ℕ) (ps ps' : List Piece) → ps' ≡ inserted place a ps →
    place ≤ length (addresses ps) → Solid ps → Continues (place + 1) (a + 1) ps'
inserted-continues-at place a ps ps' e lt s =
    rw e (inserted-continues place a ps (let n = length-addresses ps in omega (arith, lt, n)) s)

-- and that one behind all left
pub joined-continues-at : (a : ℕ) (ps ps' : List Piece) → ps' ≡ joined a ps →
    Continues (length (addresses ps) + 1) (a + 1) ps'
joined-continues-at a ps ps' e =
    rw e (joined-continues a (length (addresses ps)) ps (length-addresses ps))

-- the steps of an insertion
pub inserted-steps : (place a k : ℕ) (ps xs ys : List Piece) → k ≡ length (before place ps) →
    xs ≡ split place ps → ys ≡ joined a (take k xs) ++ drop k xs → ys ≡ inserted place a ps
inserted-steps place a k ps xs ys ek ex ey =
    rw (
      ey,
      ek,
      ex,
      take-append_seam (before place ps) (behind place ps),
      drop-append_seam (before place ps) (behind place ps),
    ) refl

take-pieces_before : (xs : List Piece) → take (length xs) xs ≡ xs
take-pieces_before [] = refl
take-pieces_before (x ∷ xs) = ap (λ t. x ∷ t) (take-pieces_before xs)

drop-pieces_before : (xs : List Piece) → drop (length xs) xs ≡ []
drop-pieces_before [] = refl
drop-pieces_before (x ∷ xs) = drop-pieces_before xs

-- the steps of one behind all
pub append-steps : (a k : ℕ) (ps ys : List Piece) → k ≡ length ps →
    ys ≡ joined a (take k ps) ++ drop k ps → ys ≡ joined a ps
append-steps a k ps ys ek ey =
    rw (ey, ek, take-pieces_before ps, drop-pieces_before ps) (append-nil (joined a ps))

-- how many pieces there are
pub overwritten-length : (place a : ℕ) (ps : List Piece) →
    length (overwritten place a ps) ≤ length ps + 2
overwritten-length place a ps =
    let j = joined-length a (before place ps) in
    let b = length-before place ps in
    let h = length-behind 1 (behind place ps) in
    let e = length-append (joined a (before place ps)) (behind 1 (behind place ps)) in
    grind (arith, j, b, h, e)

split-length : (place : ℕ) (ps : List Piece) → offset place ps ≡ 0 →
    length (before place ps) + length (behind place ps) ≡ length ps
split-length place ps o = let h = ap (λ t. length t) (split_same place ps o) in
    let e = length-append (before place ps) (behind place ps) in omega (arith, h, e)

-- a write that goes on adds no piece
pub overwritten-length-continues : (place a : ℕ) (ps : List Piece) → Continues place a ps →
    length (overwritten place a ps) ≤ length ps
overwritten-length-continues place a ps r =
    let g = r.ends in
    let j : length (joined a (before place ps)) ≡ length (before place ps) = let h =
    joined-length a (before place ps) in rw g at h in
    let b = split-length place ps r.begins in
    let h = length-behind 1 (behind place ps) in
    let e = length-append (joined a (before place ps)) (behind 1 (behind place ps)) in
    omega (arith, j, b, h, e)

-- an insertion adds at most two pieces
pub inserted-length : (place a : ℕ) (ps : List Piece) → length (inserted place a ps) ≤ length ps + 2
inserted-length place a ps =
    let j = joined-length a (before place ps) in
    let b = length-before place ps in
    let e = length-append (joined a (before place ps)) (behind place ps) in
    grind (arith, j, b, e)

-- and none where a piece goes on to it
pub inserted-length-continues : (place a : ℕ) (ps : List Piece) → Continues place a ps →
    length (inserted place a ps) ≤ length ps
inserted-length-continues place a ps r =
    let g = r.ends in
    let j : length (joined a (before place ps)) ≡ length (before place ps) = let h =
    joined-length a (before place ps) in rw g at h in
    let b = split-length place ps r.begins in
    let e = length-append (joined a (before place ps)) (behind place ps) in
    omega (arith, j, b, e)

before-all : (ps : List Piece) → before (total ps) ps ≡ ps
before-all ps =
    let h = before-past ps [] 0 (total ps) (omega arith) in
    let e : before (total ps) (ps ++ []) ≡ ps = rw h (append-nil ps) in
    rw (append-nil ps) at e

-- nor does one behind all
pub joined-length-continues : (place a : ℕ) (ps : List Piece) → place ≡ length (addresses ps) →
    Continues place a ps → length (joined a ps) ≤ length ps
joined-length-continues place a ps e r =
    let n = length-addresses ps in
    let z : place ≡ total ps = omega (arith, e, n) in
    let b : before place ps ≡ ps = rw z (before-all ps) in
    let g : ends a ps ≡ true = rw b at r.ends in
    let h = joined-length a ps in
    let k : length (joined a ps) ≡ length ps = rw g at h in
    omega (arith, k)

continues-kept-here : (b : Bool) (place : ℕ) (p : Piece) (ps qs : List Piece) →
    nat_lt place p.len ≡ b →
    offset place (p ∷ ps) ≡ 0 → Solid qs →
    (offset (place - p.len) ps ≡ 0 → (offset (place - p.len) (ps ++ qs) ≡ 0)
    × (before (place - p.len) (ps ++ qs) ≡ before (place - p.len) ps)) →
    (offset place (p ∷ (ps ++ qs)) ≡ 0) × (before place (p ∷ (ps ++ qs)) ≡ before place (p ∷ ps))
continues-kept-here true place p ps qs e o s f = let z : place ≡ 0 = rw e at o in rw e (z, refl)
continues-kept-here false place p ps qs e o s f = let z : offset (place - p.len) ps ≡ 0 =
    rw e at o in
    let k = f z in rw e (k.0, ap (λ t. p ∷ t) k.1)

-- pieces behind change nothing before a border
pub continues-kept : (place : ℕ) (ps qs : List Piece) → offset place ps ≡ 0 → Solid qs →
    (offset place (ps ++ qs) ≡ 0) × (before place (ps ++ qs) ≡ before place ps)
continues-kept place [] qs o s = let z : place ≡ 0 = o in rw z (offset-none qs s, before-none qs s)
continues-kept place (p ∷ ps) qs o s =
    continues-kept-here (nat_lt place p.len) place p ps qs refl o s
    (λ e. continues-kept (place - p.len) ps qs e s)

-- so what goes on still does
pub continues-extended : (place a : ℕ) (ps qs : List Piece) → Solid qs → Continues place a ps →
    Continues place a (ps ++ qs)
continues-extended place a ps qs s r = let k = continues-kept place ps qs r.begins s in
    record { begins = k.0; ends = rw k.1 r.ends }

-- one address less at an index
pub shorten-one : (k : ℕ) (p : Piece) (xs : List Piece) → k < length xs → p ≡ get_or xs k p →
    p.len ≡ 1 → Solid (drop k xs) → remove xs k ≡ take k xs ++ behind 1 (drop k xs)
shorten-one k p [] lt e n s = grind arith
shorten-one zero p (x ∷ []) lt e n s = let m : x.len ≡ 1 = rw e at n in rw m refl
shorten-one zero p (x ∷ y ∷ xs) lt e n s = let m : x.len ≡ 1 = rw e at n in
    let t : nat_lt 0 y.len ≡ true = grind (arith, s.1.0) in rw (m, t) refl
shorten-one (suc k) p (x ∷ xs) lt e n s =
    ap (λ t. x ∷ t) (shorten-one k p xs (omega (arith, lt)) e n s)

-- a piece without its first address
pub shorten-more : (k : ℕ) (p : Piece) (xs : List Piece) → k < length xs → p ≡ get_or xs k p →
    1 < p.len → slice_set xs k (back 1 p) ≡ take k xs ++ behind 1 (drop k xs)
shorten-more k p [] lt e n = grind arith
shorten-more zero p (x ∷ xs) lt e n = let q : p ≡ x = e in let t : nat_lt 1 p.len ≡ true =
    grind (arith, n) in rw (sym q, t) refl
shorten-more (suc k) p (x ∷ xs) lt e n =
    ap (λ t. x ∷ t) (shorten-more k p xs (omega (arith, lt)) e n)

some-pieces : (ps : List Piece) → 0 < total ps → 0 < length ps
some-pieces [] lt = grind arith
some-pieces (p ∷ ps) lt = omega arith

-- the index of a write is within the list
pub overwritten-index : (place k : ℕ) (ps xs : List Piece) → place < total ps →
    k ≡ length (before place ps) → xs ≡ split place ps → k < length xs
overwritten-index place k ps xs lt ek ex =
    let t = total-behind place ps (omega (arith, lt)) in
    let b = some-pieces (behind place ps) (omega (arith, t, lt)) in
    let e = length-append (before place ps) (behind place ps) in
    rw (ek, ex) (omega (arith, b, e))

-- the pieces from there on
pub overwritten-drop : (place k : ℕ) (ps xs : List Piece) → Solid ps →
    k ≡ length (before place ps) → xs ≡ split place ps → Solid (drop k xs)
overwritten-drop place k ps xs s ek ex =
    rw (ek, ex, drop-append_seam (before place ps) (behind place ps)) (solid-behind place ps s)

-- without the address at a place
pub out-total : (place : ℕ) (ps xs : List Piece) →
    xs ≡ before place ps ++ behind 1 (behind place ps) → place < total ps → total xs + 1 ≡ total ps
out-total place ps xs e lt =
    let t = total-behind place ps (omega (arith, lt)) in
    let u = total-behind 1 (behind place ps) (omega (arith, t, lt)) in
    let b = total-before place ps (omega (arith, lt)) in
    let s = total-append (before place ps) (behind 1 (behind place ps)) in
    rw e (omega (arith, t, u, b, s))

-- a split changes no length
pub split-total : (place : ℕ) (ps xs : List Piece) → xs ≡ split place ps → place ≤ total ps →
    total xs ≡ total ps
split-total place ps xs e le =
    let t = total-behind place ps le in
    let b = total-before place ps le in
    let s = total-append (before place ps) (behind place ps) in
    rw e (omega (arith, t, b, s))

-- an index within the list with one address out
pub out-within : (place i : ℕ) (ps xs : List Piece) → xs ≡ before place ps
    ++ behind 1 (behind place ps) → i ≡ length (before place ps) → i ≤ length xs
out-within place i ps xs e n = let l =
    length-append (before place ps) (behind 1 (behind place ps)) in rw (e, n) (omega (arith, l))

-- the first address of a piece taken out
pub solid-drop : (i : ℕ) (ps : List Piece) → Solid ps → Solid (drop i ps)
solid-drop zero ps s = s
solid-drop (suc i) [] s = s
solid-drop (suc i) (p ∷ ps) s = solid-drop i ps s.1

out-parts : (b c ys : List Piece) (i : ℕ) → ys ≡ b ++ c → i ≡ length b →
    take i ys ++ behind 1 (drop i ys) ≡ b ++ behind 1 c
out-parts b c ys i e n = rw (e, n, take-append_seam b c, drop-append_seam b c) refl

-- the first address of a piece taken out
pub out-first : (place i : ℕ) (ps xs : List Piece) → offset place ps ≡ 0 →
    i ≡ pieces_before place ps → xs ≡ take i ps ++ behind 1 (drop i ps) →
    xs ≡ before place ps ++ behind 1 (behind place ps)
out-first place i ps xs e n x =
    rw x (out-parts (before place ps) (behind place ps) ps i (sym (split_same place ps e))
    (rw (before_same place ps e) n))

-- behind the front there is all
pub behind-none : (ys : List Piece) → Solid ys → behind 0 ys ≡ ys
behind-none [] s = refl
behind-none (y ∷ ys) s = grind (arith, s.0)

-- the last address of a piece taken out
out-here : (b c : Bool) (place : ℕ) (q p : Piece) (ps : List Piece) → nat_lt place q.len ≡ b →
    (place == 0) ≡ c → Solid ps → 0 < offset place (q ∷ ps) → offset place (q ∷ ps) + 1 ≡ p.len →
    p ≡ get_or (q ∷ ps) (pieces_before place (q ∷ ps)) p →
    (b ≡ false → set ps (pieces_before (place - q.len) ps) (front (offset (place - q.len) ps) p)
    ≡ before (place - q.len) ps ++ behind 1 (behind (place - q.len) ps)) →
    set (q ∷ ps) (pieces_before place (q ∷ ps)) (front (offset place (q ∷ ps)) p) ≡ before place
    (q ∷ ps) ++ behind 1 (behind place (q ∷ ps))
out-here true true place q p ps e z s lt n g f = let y : place ≡ 0 = grind (arith, z) in
    let h : 0 < place = rw e at lt in grind (arith, h, y)
out-here true false place q p ps e z s lt n g f =
    let h : p ≡ q = rw e at g in
    let m : place + 1 ≡ p.len = rw e at n in
    let m2 : place + 1 ≡ q.len = rw h at m in
    let k : q.len - place ≡ 1 = omega (arith, m2) in
    rw (e, z, h, k, behind-none ps s) refl
out-here false c place q p ps e z s lt n g f = let h = f refl in grind (arith, common_steps, e, h)

later-piece : (p q : Piece) (ps : List Piece) (w : ℕ) → p ≡ get_or (q ∷ ps) (w + 1) p →
    p ≡ get_or ps w p
later-piece p q ps w e = let h = get-more q ps w p in rw h at e

out-at : (place : ℕ) (ps : List Piece) (p : Piece) → Solid ps → 0 < offset place ps →
    offset place ps + 1 ≡ p.len → p ≡ get_or ps (pieces_before place ps) p →
    set ps (pieces_before place ps) (front (offset place ps) p) ≡ before place ps
    ++ behind 1 (behind place ps)
out-at place [] p s lt n g = refl
out-at place (q ∷ ps) p s lt n g =
    out-here (nat_lt place q.len) (place == 0) place q p ps refl refl s.1 lt n g
    (λ e. out-at (place - q.len) ps p s.1 (rw e at lt) (rw e at n)
    (later-piece p q ps (pieces_before (place - q.len) ps) (rw e at g)))

-- the last address of a piece taken out
pub out-last : (place i o : ℕ) (p : Piece) (ps : List Piece) → Solid ps →
    i ≡ pieces_before place ps → o ≡ offset place ps → 0 < o → o + 1 ≡ p.len → p ≡ get_or ps i p →
    set ps i (front o p) ≡ before place ps ++ behind 1 (behind place ps)
out-last place i o p ps s ei eo lt n g =
    rw (ei, eo) (out-at place ps p s (rw eo at lt) (rw eo at n) (rw ei at g))

-- where the piece behind a new address begins
pub overwritten-hint : (place a i : ℕ) (ps xs : List Piece) → xs ≡ overwritten place a ps →
    i ≡ length (joined a (before place ps)) → place < length (addresses ps) →
    IsHint xs i (place + 1)
overwritten-hint place a i ps xs e n lt =
    let k = length-addresses ps in
    let b = total-before place ps (omega (arith, lt, k)) in
    let j = joined-total a (before place ps) in
    let l = length-append (joined a (before place ps)) (behind 1 (behind place ps)) in
    rw (e, n) (record {
      within = omega (arith, l);
      begins =
          rw (take-append_seam (joined a (before place ps)) (behind 1 (behind place ps)))
          (omega (arith, b, j));
    })

-- a right hint behind an insertion
pub inserted-hint : (place a i : ℕ) (ps xs : List Piece) → xs ≡ inserted place a ps →
    i ≡ length (joined a (before place ps)) → place < length (addresses ps) →
    IsHint xs i (place + 1)
inserted-hint place a i ps xs e n lt =
    let k = length-addresses ps in
    let b = total-before place ps (omega (arith, lt, k)) in
    let j = joined-total a (before place ps) in
    let l = length-append (joined a (before place ps)) (behind place ps) in
    rw (e, n) (record {
      within = omega (arith, l);
      begins =
          rw (take-append_seam (joined a (before place ps)) (behind place ps))
          (omega (arith, b, j));
    })

-- and behind all
pub joined-hint : (a i n : ℕ) (ps xs : List Piece) → xs ≡ joined a ps → i ≡ length (joined a ps) →
    n ≡ total ps → IsHint xs i (n + 1)
joined-hint a i n ps xs e f g =
    let j = joined-total a ps in
    rw e (hint-end (joined a ps) i (n + 1) f (omega (arith, j, g)))

-- a place of the addresses is one of the pieces
pub length-addresses-at : (ps : List Piece) (place : ℕ) → place < length (addresses ps) →
    place < total ps
length-addresses-at ps place lt = let n = length-addresses ps in omega (arith, n, lt)

pub ruleset overs = (
  out-total,
  split-total,
  out-within,
  out-first,
  out-last,
  solid-drop,
  inserted-steps,
  append-steps,
  overwritten-steps,
  overwritten-index,
  overwritten-drop,
)

pub ruleset shortens = (shorten-one, shorten-more)

pub ruleset fills = (
  overwritten-hint,
  inserted-hint,
  joined-hint,
  length-addresses,
  overwritten-addresses,
  inserted-addresses,
  joined-addresses,
  overwritten-total,
  inserted-total,
  joined-total,
  overwritten-solid,
  inserted-solid,
  joined-solid,
  overwritten-continues-at,
  inserted-continues-at,
  joined-continues-at,
)

pub ruleset extended = (length-addresses, addresses-append, solid-append, total-append)
