-- A list of pieces, split at a place.
use Rattle.std.proofs.Common.{◌≡◌, ◌≤◌, ◌<◌, ℕ, ◌+◌, ◌-◌, nat_lt, Bool, true, false, if◌then◌else◌, List, [], ◌∷◌, ◌++◌, length, refl, sym, ap, arith, length-append, get_or, set, take, drop, suc, zero, IsTrue, IsFalse}
use Rattle.std.proofs.lemmas.Grind.{common_steps}
use Rattle.std.specs.List.{insert}
use Rattle.std.proofs.lemmas.List.FromFn.{length-map-range_with_len, get_or-map-range_with_len}
use Rattle.std.proofs.Math.ListN.{get_or-append}
use Rattle.std.proofs.lemmas.List.{get_or-append-add, take-append-le}
use Rattle.pieces.specs.Pieces.{Piece, address_in, addresses, piece_addresses, total}
use Rattle.pieces.specs.Splitting.{IsHint, back, before, behind, front, offset, pieces_before, split}

-- where a place lies, by whether it lies in the first piece
here : (b : Bool) (place : ℕ) (p : Piece) (ps : List Piece) → nat_lt place p.len ≡ b →
    (pieces_before place (p ∷ ps) ≡ (if b then 0 else pieces_before (place - p.len) ps + 1))
    × (offset place (p ∷ ps) ≡ (if b then place else offset (place - p.len) ps))
here b place p ps e = rw e (refl, refl)

-- a split at a border changes nothing
pub split_same : (place : ℕ) (ps : List Piece) → offset place ps ≡ 0 → split place ps ≡ ps
split_same place [] e = refl
split_same place (p ∷ ps) e = grind (arith, common_steps, split_same (place - p.len) ps)

-- as many pieces before a border
pub before_same : (place : ℕ) (ps : List Piece) → offset place ps ≡ 0 →
    length (before place ps) ≡ pieces_before place ps
before_same place [] e = refl
before_same place (p ∷ ps) e = grind (arith, common_steps, before_same (place - p.len) ps)

-- and one more before a place within a piece
pub before_more : (place : ℕ) (ps : List Piece) → place ≤ total ps → 0 < offset place ps →
    length (before place ps) ≡ pieces_before place ps + 1
before_more place [] le e = grind arith
before_more place (p ∷ ps) le e = grind (arith, common_steps, before_more (place - p.len) ps)

-- a split adds at most one piece
pub length-split : (place : ℕ) (ps : List Piece) → length (split place ps) ≤ length ps + 1
length-split place [] = omega arith
length-split place (p ∷ ps) = grind (arith, common_steps, length-split (place - p.len) ps)

-- a piece split into two
pub split_two : (place : ℕ) (ps : List Piece) (p : Piece) → place ≤ total ps → 0 < offset place ps →
    p ≡ get_or ps (pieces_before place ps) p →
    insert (set ps (pieces_before place ps) (back (offset place ps) p)) (pieces_before place ps)
    (front (offset place ps) p) ≡ split place ps
split_two place [] p le pos e = grind arith
split_two place (q ∷ ps) p le pos e = grind (arith, common_steps, split_two (place - q.len) ps p)

-- which is one more
pub split_longer : (place : ℕ) (ps : List Piece) → place ≤ total ps → 0 < offset place ps →
    length (split place ps) ≡ length ps + 1
split_longer place [] le e = grind arith
split_longer place (p ∷ ps) le e = grind (arith, common_steps, split_longer (place - p.len) ps)

-- a piece has as many addresses as it says
pub length-piece : (p : Piece) → length (piece_addresses p) ≡ p.len
length-piece p = length-map-range_with_len (address_in p) 0 p.len

-- each of them by its index
pub at-piece : (p : Piece) (k : ℕ) → k < p.len → get_or (piece_addresses p) k 0 ≡ address_in p k
at-piece p k lt = get_or-map-range_with_len (address_in p) 0 p.len k k 0 lt (omega arith)

at-here : (place : ℕ) (p : Piece) (ps : List Piece) → place < p.len →
    get_or (addresses (p ∷ ps)) place 0 ≡ address_in p place
at-here place p ps lt =
    rw (get_or-append (piece_addresses p) (addresses ps) 0 place (rw (length-piece p) lt))
    (at-piece p place lt)

get-past : (xs ys : List ℕ) (m n place : ℕ) → length xs ≡ n → n + m ≡ place →
    get_or (xs ++ ys) place 0 ≡ get_or ys m 0
get-past xs ys m n place e f = rw (sym f, sym e) (get_or-append-add xs ys m 0)

at-later : (place : ℕ) (p : Piece) (ps : List Piece) → p.len ≤ place →
    get_or (addresses (p ∷ ps)) place 0 ≡ get_or (addresses ps) (place - p.len) 0
at-later place p ps le = get-past (piece_addresses p) (addresses ps) (place - p.len) p.len place
    (length-piece p) (omega (arith, le))

-- an item of a longer list
pub get-more : (p : Piece) (ps : List Piece) (w : ℕ) (d : Piece) →
    get_or (p ∷ ps) (w + 1) d ≡ get_or ps w d
get-more p ps w d = grind (arith, common_steps)

picked : (b : Bool) (x place w o : ℕ) (p : Piece) (ps : List Piece) (d : Piece) →
    (IsTrue b → x ≡ address_in p place) → (IsFalse b → x ≡ address_in (get_or ps w d) o) →
    x ≡ address_in (get_or (p ∷ ps) (if b then 0 else w + 1) d) (if b then place else o)
picked true x place w o p ps d f g = f refl
picked false x place w o p ps d f g = rw (get-more p ps w d) (g refl)

-- the address at a place, by its piece
pub address_at : (place : ℕ) (ps : List Piece) (d : Piece) → place < total ps →
    get_or (addresses ps) place 0 ≡ address_in (get_or ps (pieces_before place ps) d)
    (offset place ps)
address_at place [] d lt = grind arith
address_at place (p ∷ ps) d lt = picked (nat_lt place p.len) (get_or (addresses (p ∷ ps)) place 0)
    place (pieces_before (place - p.len) ps) (offset (place - p.len) ps) p ps d
    (λ t. at-here place p ps (grind (arith, t)))
    (λ f. let le : p.len ≤ place = grind (arith, f) in let lt2 : place < p.len + total ps = lt in
    rw (at-later place p ps le) (address_at (place - p.len) ps d (omega (arith, le, lt2))))

-- splitting what begins with pieces of this length
pub before-past : (xs ys : List Piece) (c place : ℕ) → total xs + c ≡ place →
    before place (xs ++ ys) ≡ xs ++ before c ys
before-past [] ys c place e = let z : place ≡ c = omega (arith, e) in rw z refl
before-past (x ∷ xs) ys c place e = let h =
    before-past xs ys c (place - x.len) (omega (arith, e)) in grind (arith, common_steps, h)

-- behind a place that lies in the second list
pub behind-past : (xs ys : List Piece) (c place : ℕ) → total xs + c ≡ place →
    behind place (xs ++ ys) ≡ behind c ys
behind-past [] ys c place e = let z : place ≡ c = omega (arith, e) in rw z refl
behind-past (x ∷ xs) ys c place e = let h =
    behind-past xs ys c (place - x.len) (omega (arith, e)) in grind (arith, common_steps, h)

-- the length of what stands before a place
pub total-before : (place : ℕ) (ps : List Piece) → place ≤ total ps →
    total (before place ps) ≡ place
total-before place [] le = grind arith
total-before place (p ∷ ps) le = grind (arith, common_steps, total-before (place - p.len) ps)

-- the length of two lists
pub total-append : (xs ys : List Piece) → total (xs ++ ys) ≡ total xs + total ys
total-append [] ys = omega arith
total-append (x ∷ xs) ys = let h = total-append xs ys in omega (arith, h)

-- the length of what stands behind a place
pub total-behind : (place : ℕ) (ps : List Piece) → place ≤ total ps →
    total (behind place ps) + place ≡ total ps
total-behind place [] le = grind arith
total-behind place (p ∷ ps) le = grind (arith, common_steps, total-behind (place - p.len) ps)

-- from a piece on
pub pieces_before-drop : (ps : List Piece) (i begin place : ℕ) → i ≤ length ps →
    total (take i ps) ≡ begin → begin ≤ place →
    pieces_before (place - begin) (drop i ps) + i ≡ pieces_before place ps
pieces_before-drop ps zero begin place le e lt = let z : place - begin ≡ place = omega (arith, e) in
    rw z (omega arith)
pieces_before-drop [] (suc i) begin place le e lt = grind arith
pieces_before-drop (p ∷ ps) (suc i) begin place le e lt = let h =
    pieces_before-drop ps i (begin - p.len) (place - p.len) in grind (arith, common_steps, h)

-- how far into a piece a place lies, from a later piece on
pub offset-drop : (ps : List Piece) (i begin place : ℕ) → i ≤ length ps →
    total (take i ps) ≡ begin → begin ≤ place → offset (place - begin) (drop i ps) ≡ offset place ps
offset-drop ps zero begin place le e lt = let z : place - begin ≡ place = omega (arith, e) in
    rw z refl
offset-drop [] (suc i) begin place le e lt = grind arith
offset-drop (p ∷ ps) (suc i) begin place le e lt = let h =
    offset-drop ps i (begin - p.len) (place - p.len) in grind (arith, common_steps, h)

-- the length of both parts
pub total-drop : (ps : List Piece) (i : ℕ) → total (take i ps) + total (drop i ps) ≡ total ps
total-drop ps zero = omega arith
total-drop [] (suc i) = omega arith
total-drop (p ∷ ps) (suc i) = let h = total-drop ps i in omega (arith, h)

-- one piece back
pub total-take-less : (ps : List Piece) (i begin : ℕ) (p : Piece) → total (take i ps) ≡ begin →
    0 < i → i ≤ length ps → p ≡ get_or ps (i - 1) p → total (take (i - 1) ps) + p.len ≡ begin
total-take-less ps zero begin p e lt le g = grind (arith, lt)
total-take-less [] (suc i) begin p e lt le g = grind (arith, le)
total-take-less (q ∷ ps) (suc zero) begin p e lt le g = let h : p ≡ q = g in rw h (omega (arith, e))
total-take-less (q ∷ ps) (suc (suc i)) begin p e lt le g =
    let z : suc (suc i) - 1 ≡ suc i = omega arith in
    let y : suc i - 1 ≡ i = omega arith in
    let f : p ≡ get_or ps i p = rw z at g in
    let k : p ≡ get_or ps (suc i - 1) p = rw y f in
    let h = total-take-less ps (suc i) (begin - q.len) p (omega (arith, e)) (omega arith)
    (omega (arith, le)) k in
    let m : total (take i ps) + p.len ≡ begin - q.len = rw y at h in
    rw z (omega (arith, m, e))

-- there is a piece before a place that isn't the front
pub some-before : (ps : List Piece) (i begin place : ℕ) → total (take i ps) ≡ begin →
    place < begin → 0 < i
some-before ps zero begin place e lt = grind (arith, e, lt)
some-before ps (suc i) begin place e lt = omega arith

-- the front and the end
pub hint-front : (ps : List Piece) → IsHint ps 0 0
hint-front ps = record { within = omega arith; begins = refl }

-- all of a list
pub take-whole : (xs : List Piece) → take (length xs) xs ≡ xs
take-whole [] = refl
take-whole (x ∷ xs) = ap (λ t. x ∷ t) (take-whole xs)

-- a right hint at the end
pub hint-end : (ps : List Piece) (i n : ℕ) → i ≡ length ps → n ≡ total ps → IsHint ps i n
hint-end ps i n e f = record { within = omega (arith, e); begins = rw (e, f, take-whole ps) refl }

-- no piece is longer than the list
pub len-within : (ps : List Piece) (i : ℕ) (p : Piece) → i < length ps → p ≡ get_or ps i p →
    p.len ≤ total ps
len-within [] i p lt e = grind (arith, lt)
len-within (q ∷ ps) zero p lt e = let h : p ≡ q = e in rw h (omega arith)
len-within (q ∷ ps) (suc i) p lt e = let h = len-within ps i p (omega (arith, lt)) e in
    omega (arith, h)

-- a hint stays right where more stands behind
pub hint-append : (i begin : ℕ) (ps qs xs : List Piece) → xs ≡ ps ++ qs → IsHint ps i begin →
    IsHint xs i begin
hint-append i begin ps qs xs e h =
    let l = length-append ps qs in
    let w = h.within in
    rw e (record {
      within = omega (arith, l, w);
      begins =
          rw (take-append-le i ps qs h.within) h.begins;
    })

pub ruleset hints = (
  pieces_before-drop,
  offset-drop,
  total-drop,
  total-take-less,
  some-before,
  hint-front,
  hint-end,
)

pub ruleset splits =
    (split_same, before_same, before_more, split_two, split_longer, length-split, address_at)
