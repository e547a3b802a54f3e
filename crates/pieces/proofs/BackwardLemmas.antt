-- Pieces with an address more, backward.
use Rattle.std.proofs.Common.{◌≡◌, ◌≤◌, ◌<◌, ℕ, ◌+◌, ◌-◌, ◌==◌, nat_lt, Bool, true, false, ◌||◌, ◌&&◌, if◌then◌else◌, List, [], ◌∷◌, ◌++◌, length, refl, sym, ap, arith, get_or, set, take, drop, suc, zero, map, length-append}
use Rattle.std.proofs.lemmas.Grind.{common_steps}
use Rattle.std.specs.Prelude.{slice_set}
use Rattle.std.specs.List.{insert, range_with_len}
use Rattle.std.proofs.Math.Seq.{take-append_seam, drop-append_seam}
use Rattle.pieces.proofs.SplittingLemmas.{length-split, length-piece, total-behind, before-past, behind-past, total-before, total-append, split_same, len-within}
use Rattle.pieces.proofs.AddressLemmas.{addresses-append, addresses-before, addresses-behind, set-by-parts, length-addresses, length-behind, length-before}
use Rattle.pieces.proofs.OneMoreLemmas.{offset-past, offset-none, before-none, drop-drop, solid-before, solid-behind, solid-append, behind-none, out-total, out-within, overwritten-index, overwritten-drop, continues-kept}
use Rattle.pieces.specs.Pieces.{Piece, Solid, address_in, addresses, total}
use Rattle.pieces.specs.Splitting.{IsHint, back, before, behind, front, offset, split}
use Rattle.pieces.specs.OneMore.{ContinuesBackward, grown_down, grows_down, joined_before, one, overwritten_backward, starts}

-- the piece behind grows down
pub join-down : (k a : ℕ) (p : Piece) (xs : List Piece) → k < length xs → p ≡ get_or xs k p →
    grows_down a p ≡ true → set xs k (grown_down p) ≡ take k xs ++ joined_before a (drop k xs)
join-down k a p [] lt e g = grind arith
join-down zero a p (x ∷ xs) lt e g = let q : p ≡ x = e in rw (sym q, g) refl
join-down (suc k) a p (x ∷ xs) lt e g = ap (λ t. x ∷ t) (join-down k a p xs (omega (arith, lt)) e g)

-- or a piece comes before it
pub put-down : (k a : ℕ) (p : Piece) (xs : List Piece) → k < length xs → p ≡ get_or xs k p →
    grows_down a p ≡ false → insert xs k (one a) ≡ take k xs ++ joined_before a (drop k xs)
put-down k a p [] lt e g = grind arith
put-down zero a p (x ∷ xs) lt e g = let q : p ≡ x = e in rw (sym q, g) refl
put-down (suc k) a p (x ∷ xs) lt e g = ap (λ t. x ∷ t) (put-down k a p xs (omega (arith, lt)) e g)

-- or behind all
pub put-last : (k a : ℕ) (xs : List Piece) → k ≡ length xs →
    insert xs k (one a) ≡ take k xs ++ joined_before a (drop k xs)
put-last zero a [] e = refl
put-last (suc k) a [] e = grind (arith, e)
put-last zero a (x ∷ xs) e = grind (arith, e)
put-last (suc k) a (x ∷ xs) e = ap (λ t. x ∷ t) (put-last k a xs (omega (arith, e)))

pub ruleset joins = (join-down, put-down, put-last, len-within)

-- the steps of a write backward
pub down-steps : (place a k : ℕ) (ps s t u : List Piece) → s ≡ split place ps →
    k ≡ length (before place ps) → t ≡ take k s ++ behind 1 (drop k s) →
    u ≡ take k t ++ joined_before a (drop k t) → u ≡ overwritten_backward place a ps
down-steps place a k ps s t u e1 e2 e3 e4 =
    let t1 : t ≡ before place ps ++ behind 1 (behind place ps) =
    rw (
      e3,
      e1,
      e2,
      take-append_seam (before place ps) (behind place ps),
      drop-append_seam (before place ps) (behind place ps),
    ) refl in
    rw (
      e4,
      t1,
      e2,
      take-append_seam (before place ps) (behind 1 (behind place ps)),
      drop-append_seam (before place ps) (behind 1 (behind place ps)),
    ) refl

-- its index is within the list
pub down-within : (place k : ℕ) (ps s t : List Piece) → s ≡ split place ps →
    k ≡ length (before place ps) → t ≡ take k s ++ behind 1 (drop k s) → k ≤ length t
down-within place k ps s t e1 e2 e3 =
    let t1 : t ≡ before place ps ++ behind 1 (behind place ps) =
    rw (
      e3,
      e1,
      e2,
      take-append_seam (before place ps) (behind place ps),
      drop-append_seam (before place ps) (behind place ps),
    ) refl in
    let e = length-append (before place ps) (behind 1 (behind place ps)) in
    rw (t1, e2) (omega (arith, e))

pub ruleset steps =
    (out-total, out-within, down-steps, down-within, overwritten-index, overwritten-drop)

-- addresses
downs : (s a n : ℕ) →
    map (λ k. (s + 1) - k) (range_with_len (a + 1) n) ≡ map (λ k. s - k) (range_with_len a n)
downs s a zero = refl
downs s a (suc n) = let h = downs s (a + 1) n in let e : (s + 1) - (a + 1) ≡ s - a = omega arith in
    rw (e, h) refl

grown-downs : (s n : ℕ) (b : Bool) (a : ℕ) → ((b || n == 1) && (s + 1 == a)) ≡ true →
    map (λ k. (s + 1) - k) (range_with_len 0 (n + 1)) ≡ a
    ∷ map (address_in (record { start = s; len = n; backward = b })) (range_with_len 0 n)
grown-downs s n true a g =
    let f : s + 1 ≡ a = grind (arith, g) in
    let z : (s + 1) - 0 ≡ a = omega (arith, f) in
    let m : n + 1 ≡ suc n = omega arith in
    rw (m, z) (ap (λ t. a ∷ t) (downs s 0 n))
grown-downs s n false a g =
    let e : n ≡ 1 = grind (arith, g) in
    let f : s + 1 ≡ a = grind (arith, g) in
    let z : (s + 1) - 0 ≡ a = omega (arith, f) in
    let y : (s + 1) - 1 ≡ s + 0 = omega arith in
    rw (e, z, y) refl

down-here : (b : Bool) (a : ℕ) (p : Piece) (ps : List Piece) → grows_down a p ≡ b →
    addresses (if b then grown_down p ∷ ps else one a ∷ p ∷ ps) ≡ a ∷ addresses (p ∷ ps)
down-here true a p ps g = rw (grown-downs p.start p.len p.backward a g) refl
down-here false a p ps g = let z : a + 0 ≡ a = omega arith in rw z refl

down-addresses : (a : ℕ) (ps : List Piece) → addresses (joined_before a ps) ≡ a ∷ addresses ps
down-addresses a [] = let z : a + 0 ≡ a = omega arith in rw z refl
down-addresses a (p ∷ ps) = down-here (grows_down a p) a p ps refl

-- a write backward changes one address
pub overwritten-down-addresses : (place a : ℕ) (ps : List Piece) → place < total ps →
    addresses (overwritten_backward place a ps) ≡ slice_set (addresses ps) place a
overwritten-down-addresses place a ps lt =
    let le : place ≤ total ps = omega (arith, lt) in
    let n = length-addresses ps in
    let t = total-behind place ps le in
    let h = set-by-parts (addresses ps) place a (omega (arith, n, lt)) in
    rw (
      addresses-append (before place ps) (joined_before a (behind 1 (behind place ps))),
      down-addresses a (behind 1 (behind place ps)),
      addresses-before place ps le,
      addresses-behind 1 (behind place ps) (omega (arith, t, lt)),
      addresses-behind place ps le,
      drop-drop (addresses ps) place,
    ) h

down-total : (a : ℕ) (ps : List Piece) → total (joined_before a ps) ≡ total ps + 1
down-total a [] = omega arith
down-total a (p ∷ ps) = grind arith

-- it changes no length
pub overwritten-down-total : (place a : ℕ) (ps : List Piece) → place < total ps →
    total (overwritten_backward place a ps) ≡ total ps
overwritten-down-total place a ps lt =
    let le : place ≤ total ps = omega (arith, lt) in
    let t = total-behind place ps le in
    let u = total-behind 1 (behind place ps) (omega (arith, t, lt)) in
    let b = total-before place ps le in
    let j = down-total a (behind 1 (behind place ps)) in
    let s = total-append (before place ps) (joined_before a (behind 1 (behind place ps))) in
    omega (arith, t, u, b, j, s)

down-solid-here : (b : Bool) (a : ℕ) (p : Piece) (ps : List Piece) → Solid (p ∷ ps) →
    Solid (if b then grown_down p ∷ ps else one a ∷ p ∷ ps)
down-solid-here true a p ps s = (omega arith, s.1)
down-solid-here false a p ps s = (omega arith, s)

down-solid : (a : ℕ) (ps : List Piece) → Solid ps → Solid (joined_before a ps)
down-solid a [] s = (omega arith, tt)
down-solid a (p ∷ ps) s = down-solid-here (grows_down a p) a p ps s

-- it leaves no empty piece
pub overwritten-down-solid : (place a : ℕ) (ps : List Piece) → Solid ps →
    Solid (overwritten_backward place a ps)
overwritten-down-solid place a ps s =
    solid-append (before place ps) (joined_before a (behind 1 (behind place ps)))
    (solid-before place ps s)
    (down-solid a (behind 1 (behind place ps))
    (solid-behind 1 (behind place ps) (solid-behind place ps s)))

-- the next address goes on
starts-here : (b : Bool) (a : ℕ) (p : Piece) (ps : List Piece) → grows_down a p ≡ b →
    starts (a + 1) (if b then grown_down p ∷ ps else one a ∷ p ∷ ps) ≡ true
starts-here true a p ps g = grind (arith, common_steps, g)
starts-here false a p ps g = grind (arith, common_steps)

down-starts : (a : ℕ) (ps : List Piece) → starts (a + 1) (joined_before a ps) ≡ true
down-starts a [] = grind (arith, common_steps)
down-starts a (p ∷ ps) = starts-here (grows_down a p) a p ps refl

-- the next one in front goes on from it
pub overwritten-down-continues : (place a : ℕ) (ps ps' : List Piece) →
    ps' ≡ overwritten_backward place a ps → place < length (addresses ps) → Solid ps →
    ContinuesBackward place (a + 1) ps'
overwritten-down-continues place a ps ps' e lt s =
    let n = length-addresses ps in
    let lt2 : place < total ps = omega (arith, n, lt) in
    let b = total-before place ps (omega (arith, lt2)) in
    let z : total (before place ps) + 0 ≡ place = omega (arith, b) in
    let r : List Piece = joined_before a (behind 1 (behind place ps)) in
    let sr = down-solid a (behind 1 (behind place ps))
    (solid-behind 1 (behind place ps) (solid-behind place ps s)) in
    let t = overwritten-down-total place a ps lt2 in
    rw e (record {
      begins = rw (offset-past (before place ps) (joined_before a (behind 1 (behind place ps))) 0
          place z) (offset-none (joined_before a (behind 1 (behind place ps))) sr);
      inside = omega (arith, t, lt2);
      starts = rw (
        behind-past (before place ps) (joined_before a (behind 1 (behind place ps))) 0
            place z,
        behind-none (joined_before a (behind 1 (behind place ps))) sr,
      )
          (down-starts a (behind 1 (behind place ps)));
    })

-- how many pieces
joined-before-length : (a : ℕ) (ps : List Piece) →
    length (joined_before a ps) ≡ (if starts a ps then length ps else length ps + 1)
joined-before-length a [] = refl
joined-before-length a (p ∷ ps) = grind arith

-- it adds at most two pieces
pub down-length : (place a : ℕ) (ps : List Piece) →
    length (overwritten_backward place a ps) ≤ length ps + 2
down-length place a ps =
    let j = joined-before-length a (behind 1 (behind place ps)) in
    let b = length-before place ps in
    let h = length-behind 1 (behind place ps) in
    let e = length-append (before place ps) (joined_before a (behind 1 (behind place ps))) in
    grind (arith, j, b, h, e)

at-end : (b : Bool) (place : ℕ) (p : Piece) (ps : List Piece) → nat_lt (place + 1) p.len ≡ b →
    place < p.len → offset (place + 1) (p ∷ ps) ≡ 0 → p.len ≡ place + 1
at-end true place p ps e lt o = let z : place + 1 ≡ 0 = rw e at o in omega (arith, z)
at-end false place p ps e lt o = grind (arith, e, lt)

cut-here : (c : Bool) (place : ℕ) (p : Piece) (ps : List Piece) → (place == 0) ≡ c →
    p.len ≡ place + 1 → behind 1 (if c then p ∷ ps else back place p ∷ ps) ≡ behind 0 ps
cut-here true place p ps e n =
    let z : place ≡ 0 = grind (arith, e) in
    let m : p.len ≡ 1 = omega (arith, z, n) in
    rw m refl
cut-here false place p ps e n =
    let m : p.len - place ≡ 1 = omega (arith, n) in
    rw m refl

before-here : (c : Bool) (place : ℕ) (p : Piece) → length (if c then [] else front place p ∷ []) ≤ 1
before-here true place p = omega arith
before-here false place p = omega arith

cut-boundary : (b : Bool) (place : ℕ) (p : Piece) (ps : List Piece) → nat_lt place p.len ≡ b →
    offset (place + 1) (p ∷ ps) ≡ 0 →
    (offset ((place - p.len) + 1) ps ≡ 0 →
    (behind 1 (behind (place - p.len) ps) ≡ behind ((place - p.len) + 1) ps)
    × (length (before (place - p.len) ps) + length (behind 1 (behind (place - p.len) ps)) ≤ length
    ps)) → (behind 1 (behind place (p ∷ ps)) ≡ behind (place + 1) (p ∷ ps))
    × (length (before place (p ∷ ps)) + length (behind 1 (behind place (p ∷ ps))) ≤ length (p ∷ ps))
cut-boundary true place p ps e o f =
    let lt : place < p.len = grind (arith, e) in
    let n = at-end (nat_lt (place + 1) p.len) place p ps refl lt o in
    let h = cut-here (place == 0) place p ps refl n in
    let g : nat_lt (place + 1) p.len ≡ false = grind (arith, n) in
    let z : (place + 1) - p.len ≡ 0 = omega (arith, n) in
    let l = length-behind 0 ps in
    let b = before-here (place == 0) place p in
    (rw (e, h, g, z) refl, rw (e, h) (omega (arith, l, b)))
cut-boundary false place p ps e o f =
    let le : p.len ≤ place = grind (arith, e) in
    let g : nat_lt (place + 1) p.len ≡ false = grind (arith, le) in
    let z : (place + 1) - p.len ≡ (place - p.len) + 1 = omega (arith, le) in
    let q : offset ((place - p.len) + 1) ps ≡ 0 = rw (g, z) at o in
    let k = f q in
    (rw (e, g, z) k.0, rw e (let k1 = k.1 in omega (arith, k1)))

boundary : (place : ℕ) (ps : List Piece) → offset (place + 1) ps ≡ 0 →
    (behind 1 (behind place ps) ≡ behind (place + 1) ps)
    × (length (before place ps) + length (behind 1 (behind place ps)) ≤ length ps)
boundary place [] o = (refl, omega arith)
boundary place (p ∷ ps) o =
    cut-boundary (nat_lt place p.len) place p ps refl o (λ q. boundary (place - p.len) ps q)

-- and none where a piece goes on to it
pub down-length-continues : (place a : ℕ) (ps : List Piece) → place < total ps →
    ContinuesBackward (place + 1) a ps → length (overwritten_backward place a ps) ≤ length ps
down-length-continues place a ps lt r =
    let k = boundary place ps r.begins in
    let g : starts a (behind 1 (behind place ps)) ≡ true = rw k.0 r.starts in
    let j : length (joined_before a (behind 1 (behind place ps))) ≡ length
    (behind 1 (behind place ps)) = let h =
    joined-before-length a (behind 1 (behind place ps)) in rw g at h in
    let e = length-append (before place ps) (joined_before a (behind 1 (behind place ps))) in
    let k1 = k.1 in
    omega (arith, j, e, k1)

starts-kept : (c : Bool) (a place : ℕ) (p : Piece) (ps qs : List Piece) →
    starts a (if c then p ∷ ps else back place p ∷ ps) ≡ true →
    starts a (if c then p ∷ (ps ++ qs) else back place p ∷ (ps ++ qs)) ≡ true
starts-kept true a place p ps qs s = s
starts-kept false a place p ps qs s = s

down-here-kept : (b : Bool) (place a : ℕ) (p : Piece) (ps qs : List Piece) →
    nat_lt place p.len ≡ b → offset place (p ∷ ps) ≡ 0 → starts a (behind place (p ∷ ps)) ≡ true →
    (offset (place - p.len) ps ≡ 0 → starts a (behind (place - p.len) ps) ≡ true →
    (offset (place - p.len) (ps ++ qs) ≡ 0)
    × (starts a (behind (place - p.len) (ps ++ qs)) ≡ true)) → (offset place (p ∷ (ps ++ qs)) ≡ 0)
    × (starts a (behind place (p ∷ (ps ++ qs))) ≡ true)
down-here-kept true place a p ps qs e o s f = let z : place ≡ 0 = rw e at o in let t = rw e at s in
    (rw e z, rw e (starts-kept (place == 0) a place p ps qs t))
down-here-kept false place a p ps qs e o s f = let z : offset (place - p.len) ps ≡ 0 = rw e at o in
    let t : starts a (behind (place - p.len) ps) ≡ true = rw e at s in let k = f z t in
    (rw e k.0, rw e k.1)

down-kept : (place a : ℕ) (ps qs : List Piece) → offset place ps ≡ 0 →
    starts a (behind place ps) ≡ true → (offset place (ps ++ qs) ≡ 0)
    × (starts a (behind place (ps ++ qs)) ≡ true)
down-kept place a [] qs o s = grind (arith, s)
down-kept place a (p ∷ ps) qs o s = down-here-kept (nat_lt place p.len) place a p ps qs refl o s
    (λ x y. down-kept (place - p.len) a ps qs x y)

-- pieces behind change nothing of that
pub down-extended : (place a : ℕ) (ps qs : List Piece) → ContinuesBackward place a ps →
    ContinuesBackward place a (ps ++ qs)
down-extended place a ps qs r =
    let k = down-kept place a ps qs r.begins r.starts in
    let t = total-append ps qs in
    let i = r.inside in
    record { begins = k.0; inside = omega (arith, t, i); starts = k.1 }

-- a right hint behind it
pub backward-hint : (place a i : ℕ) (ps xs : List Piece) → xs ≡ overwritten_backward place a ps →
    i ≡ length (before place ps) → place < length (addresses ps) → IsHint xs i place
backward-hint place a i ps xs e n lt =
    let k = length-addresses ps in
    let b = total-before place ps (omega (arith, lt, k)) in
    let l = length-append (before place ps) (joined_before a (behind 1 (behind place ps))) in
    rw (e, n) (record {
      within = omega (arith, l);
      begins =
          rw (take-append_seam (before place ps) (joined_before a (behind 1 (behind place ps)))) b;
    })

pub ruleset fills = (
  backward-hint,
  length-addresses,
  overwritten-down-addresses,
  overwritten-down-total,
  overwritten-down-solid,
)
