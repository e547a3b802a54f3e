-- What edits of pieces do to their addresses.
use Rattle.std.proofs.Common.{◌≡◌, ◌≤◌, ◌<◌, ℕ, ◌+◌, ◌-◌, Bool, true, false, if◌then◌else◌, List, [], ◌∷◌, ◌++◌, length, refl, sym, ap, arith, set, take, drop, suc, zero, map}
use Rattle.std.proofs.lemmas.Grind.{common_steps}
use Rattle.std.specs.List.{insert, range_with_len, copy_within}
use Rattle.std.proofs.lemmas.List.Edits.{take-paste}
use Rattle.std.proofs.Common.{length-drop, take_all, length-append}
use Rattle.std.proofs.lemmas.List.{append_assoc, take-append-le, take-append-drop, drop-append-le}
use Rattle.std.proofs.lemmas.List.FromFn.{take-map-range_with_len}
use Rattle.std.proofs.Math.Seq.{take-append-add, drop-append-add, take-append_seam, drop-append_seam}
use Rattle.pieces.proofs.SplittingLemmas.{length-split, length-piece, total-behind, before-past, behind-past, total-before, total-append}
use Rattle.pieces.specs.Pieces.{Piece, address_in, addresses, piece_addresses, total}
use Rattle.pieces.specs.Splitting.{IsHint, back, before, behind, front, spliced, split}

-- the addresses of two lists, one behind the other
pub addresses-append : (xs ys : List Piece) → addresses (xs ++ ys) ≡ addresses xs ++ addresses ys
addresses-append [] ys = refl
addresses-append (x ∷ xs) ys = rw (addresses-append xs ys)
    (sym (append_assoc (piece_addresses x) (addresses xs) (addresses ys)))

-- a address_in on, by k places
on : (b : Bool) (s k j : ℕ) →
    (if b then (if b then s - k else s + k) - j else (if b then s - k else s + k) + j) ≡ (if b then
    s - (k + j) else s + (k + j))
on true s k j = omega arith
on false s k j = omega arith

stepped : (p : Piece) (k a n : ℕ) →
    map (address_in (back k p)) (range_with_len a n) ≡ map (address_in p) (range_with_len (k + a) n)
stepped p k a zero = refl
stepped p k a (suc n) = let h = stepped p k (a + 1) n in let e = on p.backward p.start k a in
    grind (arith, h, e)

dropped : (f : ℕ → ℕ) (k a n : ℕ) → k ≤ n →
    drop k (map f (range_with_len a n)) ≡ map f (range_with_len (k + a) (n - k))
dropped f zero a n le = grind arith
dropped f (suc k) a zero le = grind arith
dropped f (suc k) a (suc n) le = let h = dropped f k (a + 1) n (omega (arith, le)) in
    let e : k + (a + 1) ≡ suc k + a = omega arith in let d : suc n - suc k ≡ n - k = omega arith in
    rw (h, e, d) refl

-- the front of a piece is its first addresses
pub piece-front : (p : Piece) (k : ℕ) → k ≤ p.len →
    piece_addresses (front k p) ≡ take k (piece_addresses p)
piece-front p k le = sym (take-map-range_with_len (address_in p) 0 p.len k le)

-- and its back the others
pub piece-back : (p : Piece) (k : ℕ) → k ≤ p.len →
    piece_addresses (back k p) ≡ drop k (piece_addresses p)
piece-back p k le = rw (stepped p k 0 (p.len - k), dropped (address_in p) k 0 p.len le) refl

-- a part of the first piece, and the rest
cut-first : (place : ℕ) (p : Piece) (ps : List Piece) → place ≤ p.len →
    take place (addresses (p ∷ ps)) ≡ take place (piece_addresses p)
cut-first place p ps le =
    take-append-le place (piece_addresses p) (addresses ps) (rw (length-piece p) le)

past-first : (place : ℕ) (p : Piece) (ps : List Piece) → place ≤ p.len →
    drop place (addresses (p ∷ ps)) ≡ drop place (piece_addresses p) ++ addresses ps
past-first place p ps le =
    drop-append-le place (piece_addresses p) (addresses ps) (rw (length-piece p) le)

take-past : (xs ys : List ℕ) (m n place : ℕ) → length xs ≡ n → n + m ≡ place →
    take place (xs ++ ys) ≡ xs ++ take m ys
take-past xs ys m n place e f = rw (sym f, sym e) (take-append-add xs ys m)

drop-past : (xs ys : List ℕ) (m n place : ℕ) → length xs ≡ n → n + m ≡ place →
    drop place (xs ++ ys) ≡ drop m ys
drop-past xs ys m n place e f = rw (sym f, sym e) (drop-append-add xs ys m)

cut-later : (place : ℕ) (p : Piece) (ps : List Piece) → p.len ≤ place →
    take place (addresses (p ∷ ps)) ≡ piece_addresses p ++ take (place - p.len) (addresses ps)
cut-later place p ps le = take-past (piece_addresses p) (addresses ps) (place - p.len) p.len place
    (length-piece p) (omega (arith, le))

past-later : (place : ℕ) (p : Piece) (ps : List Piece) → p.len ≤ place →
    drop place (addresses (p ∷ ps)) ≡ drop (place - p.len) (addresses ps)
past-later place p ps le = drop-past (piece_addresses p) (addresses ps) (place - p.len) p.len place
    (length-piece p) (omega (arith, le))

-- the pieces before a place are the first addresses
pub addresses-before : (place : ℕ) (ps : List Piece) → place ≤ total ps →
    addresses (before place ps) ≡ take place (addresses ps)
addresses-before place [] le = grind arith
addresses-before place (p ∷ ps) le =
    grind (
      arith,
      common_steps,
      addresses-before (place - p.len) ps,
      cut-first place p ps,
      cut-later place p ps,
      piece-front p place,
    )

-- and those behind it the others
pub addresses-behind : (place : ℕ) (ps : List Piece) → place ≤ total ps →
    addresses (behind place ps) ≡ drop place (addresses ps)
addresses-behind place [] le = grind arith
addresses-behind place (p ∷ ps) le =
    grind (
      arith,
      common_steps,
      addresses-behind (place - p.len) ps,
      past-first place p ps,
      past-later place p ps,
      piece-back p place,
    )

-- a split changes no address
pub addresses-split : (place : ℕ) (ps : List Piece) → place ≤ total ps →
    addresses (split place ps) ≡ addresses ps
addresses-split place ps le =
    rw (
      addresses-append (before place ps) (behind place ps),
      addresses-before place ps le,
      addresses-behind place ps le,
    ) (take-append-drop place (addresses ps))

-- a splice puts a piece in place of addresses
pub addresses-spliced : (place count : ℕ) (piece : Piece) (ps : List Piece) →
    place + count ≤ total ps → addresses (spliced place count piece ps) ≡ take place (addresses ps)
    ++ (piece_addresses piece ++ drop (place + count) (addresses ps))
addresses-spliced place count piece ps le =
    let le1 : place ≤ total ps = omega (arith, le) in
    let le2 : count ≤ total (behind place ps) = let h = total-behind place ps le1 in
    omega (arith, le, h) in
    let d : drop count (drop place (addresses ps)) ≡ drop (place + count) (addresses ps) =
    grind (arith, common_steps) in
    rw (
      addresses-append (before place ps) (piece ∷ behind count (behind place ps)),
      addresses-before place ps le1,
      addresses-behind count (behind place ps) le2,
      addresses-behind place ps le1,
      d,
    ) refl

-- items moved down are items removed
pub removed : (xs : List Piece) (i j n : ℕ) → i ≤ j → j ≤ n → n ≡ length xs →
    take (i + (n - j)) (copy_within xs j n i) ≡ take i xs ++ drop j xs
removed xs i j n le1 le2 e =
    let h = take-paste xs i (drop j xs) (n - j) (omega (arith, le1, le2, e))
    (rw (length-drop j xs) (omega (arith, e))) in
    let t : take (n - j) (drop j xs) ≡ drop j xs =
    take_all (n - j) (drop j xs) (rw (length-drop j xs) (omega (arith, e))) in
    rw (h, t) refl

-- what is left of a list that was split at both ends of what goes
between : (b m r : List Piece) (p : Piece) →
    insert (take (length b) (b ++ (m ++ r)) ++ drop (length b + length m) (b ++ (m ++ r)))
    (length b) p ≡ b ++ p ∷ r
between b m r p = rw (
  take-append_seam b (m ++ r),
  drop-append-add b (m ++ r) (length m),
  drop-append_seam m r,
  take-append_seam b r,
  drop-append_seam b r,
) refl

before-twice : (a c : ℕ) (ps : List Piece) → a ≤ total ps →
    before (a + c) (split a ps) ≡ before a ps ++ before c (behind a ps)
before-twice a c ps le = before-past (before a ps) (behind a ps) c (a + c)
    (let h = total-before a ps le in omega (arith, h))

behind-twice : (a c : ℕ) (ps : List Piece) → a ≤ total ps →
    behind (a + c) (split a ps) ≡ behind c (behind a ps)
behind-twice a c ps le = behind-past (before a ps) (behind a ps) c (a + c)
    (let h = total-before a ps le in omega (arith, h))

split-twice : (a c : ℕ) (ps : List Piece) → a ≤ total ps →
    split (a + c) (split a ps) ≡ before a ps ++ (before c (behind a ps) ++ behind c (behind a ps))
split-twice a c ps le = rw (before-twice a c ps le, behind-twice a c ps le)
    (append_assoc (before a ps) (before c (behind a ps)) (behind c (behind a ps)))

length-twice : (a c : ℕ) (ps : List Piece) → a ≤ total ps →
    length (before (a + c) (split a ps)) ≡ length (before a ps) + length (before c (behind a ps))
length-twice a c ps le =
    rw (before-twice a c ps le) (length-append (before a ps) (before c (behind a ps)))

-- two splits and a piece between are a splice
pub spliced-twice : (a c from to : ℕ) (ps once two : List Piece) (p : Piece) → a ≤ total ps →
    once ≡ split a ps → from ≡ length (before a ps) → two ≡ split (a + c) once →
    to ≡ length (before (a + c) once) →
    insert (take from two ++ drop to two) from p ≡ spliced a c p ps
spliced-twice a c from to ps once two p le e1 e2 e3 e4 =
    rw (e4, e3, e1, e2)
    (rw (split-twice a c ps le, length-twice a c ps le)
    (between (before a ps) (before c (behind a ps)) (behind c (behind a ps)) p))

-- both ends of an edit, in order and within the list
pub record Ends (from to n : ℕ) : Type 0 where
  pub order : from ≤ to
  pub within : to ≤ n

-- the ends of a splice
pub ends-twice : (a c from to : ℕ) (ps once two : List Piece) → a ≤ total ps → once ≡ split a ps →
    from ≡ length (before a ps) → two ≡ split (a + c) once → to ≡ length (before (a + c) once) →
    Ends from to (length two)
ends-twice a c from to ps once two le e1 e2 e3 e4 =
    let h : to ≡ from + length (before c (behind a ps)) =
    rw (e4, e1, e2) (length-twice a c ps le) in
    let t : length two ≡ to + length (behind c (behind a ps)) =
    rw (e3, e4, e1) (rw (sym (behind-twice a c ps le))
    (length-append (before (a + c) (split a ps)) (behind (a + c) (split a ps)))) in
    record { order = omega (arith, h); within = omega (arith, t) }

-- a split changes no length
pub total-split : (a : ℕ) (ps : List Piece) → a ≤ total ps → total (split a ps) ≡ total ps
total-split a ps le = let h = total-before a ps le in let k = total-behind a ps le in
    let t = total-append (before a ps) (behind a ps) in omega (arith, h, k, t)

-- they are in order
pub order-twice : (a c from to : ℕ) (ps once two : List Piece) → a ≤ total ps → once ≡ split a ps →
    from ≡ length (before a ps) → two ≡ split (a + c) once → to ≡ length (before (a + c) once) →
    from ≤ to
order-twice a c from to ps once two le e1 e2 e3 e4 =
    (ends-twice a c from to ps once two le e1 e2 e3 e4).order

-- they are within the list
pub within-twice : (a from : ℕ) (ps two : List Piece) → from ≡ length (before a ps) →
    two ≡ split a ps → from ≤ length two
within-twice a from ps two e1 e2 =
    rw (e1, e2, length-append (before a ps) (behind a ps)) (omega arith)

-- the first of them is a right hint
pub hint-twice : (a from : ℕ) (ps two : List Piece) → a ≤ total ps → from ≡ length (before a ps) →
    two ≡ split a ps → IsHint two from a
hint-twice a from ps two le e1 e2 =
    let b = total-before a ps le in
    let l = length-append (before a ps) (behind a ps) in
    rw (e1, e2) (record {
      within = omega (arith, l);
      begins =
          rw (take-append_seam (before a ps) (behind a ps)) b;
    })

pub ruleset twice = (hint-twice, spliced-twice, order-twice, within-twice, total-split)

pub ruleset edits =
    (addresses-split, addresses-append, addresses-before, addresses-behind, addresses-spliced)

-- a split has at most one piece more
pub length-before : (place : ℕ) (ps : List Piece) →
    length (before place ps) + length (behind place ps) ≤ length ps + 1
length-before place ps = let h = length-split place ps in
    let e = length-append (before place ps) (behind place ps) in omega (arith, h, e)

-- there are no more pieces behind a place
pub length-behind : (place : ℕ) (ps : List Piece) → length (behind place ps) ≤ length ps
length-behind place [] = omega arith
length-behind place (p ∷ ps) = grind (arith, common_steps, length-behind (place - p.len) ps)

-- a splice adds at most two pieces
pub length-spliced : (place count : ℕ) (p : Piece) (ps : List Piece) →
    length (spliced place count p ps) ≤ length ps + 2
length-spliced place count p ps =
    let e = length-append (before place ps) (p ∷ behind count (behind place ps)) in
    let h = length-before place ps in
    let g = length-behind count (behind place ps) in
    omega (arith, e, h, g)

-- one item in place of another
pub set-by-parts : (xs : List ℕ) (i x : ℕ) → i < length xs →
    take i xs ++ (x ∷ [] ++ drop (i + 1) xs) ≡ set xs i x
set-by-parts [] i x lt = grind arith
set-by-parts (y ∷ ys) zero x lt = refl
set-by-parts (y ∷ ys) (suc i) x lt = let e : suc i + 1 ≡ suc (i + 1) = omega arith in
    let h = set-by-parts ys i x (omega (arith, lt)) in rw e (ap (λ t. y ∷ t) h)

-- as many addresses as the pieces have
pub length-addresses : (ps : List Piece) → length (addresses ps) ≡ total ps
length-addresses [] = refl
length-addresses (p ∷ ps) = let h = length-addresses ps in let e = length-piece p in
    let a = length-append (piece_addresses p) (addresses ps) in omega (arith, h, e, a)

-- one address in place of another, by parts
pub filled : (ps qs : List Piece) (place address : ℕ) → place < total ps →
    addresses qs ≡ take place (addresses ps)
    ++ (piece_addresses (record { start = address; len = 1; backward = false })
    ++ drop (place + 1) (addresses ps)) → addresses qs ≡ set (addresses ps) place address
filled ps qs place address lt e = let n = length-addresses ps in let z : address + 0 ≡ address =
    omega arith in let h = set-by-parts (addresses ps) place address (omega (arith, n, lt)) in
    rw (e, z) h

pub ruleset fills = (length-spliced, filled)
