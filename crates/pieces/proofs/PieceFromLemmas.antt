-- A stretch of addresses from a place on.
use Rattle.std.proofs.Common.{◌≡◌, ◌≤◌, ◌<◌, ℕ, ◌+◌, ◌-◌, ◌==◌, nat_lt, Bool, true, false, List, [], ◌∷◌, ◌++◌, length, refl, sym, ap, arith, get_or, take, drop, suc, zero, if◌then◌else◌}
use Rattle.std.proofs.lemmas.Grind.{common_steps}
use Rattle.std.proofs.Math.Seq.{take-append_seam}
use Rattle.pieces.specs.Pieces.{Piece, total, addresses, piece_addresses}
use Rattle.pieces.specs.Splitting.{back, front, behind, pieces_before, offset}
use Rattle.pieces.proofs.SplittingLemmas.{length-piece, get-more}
use Rattle.pieces.proofs.AddressLemmas.{piece-front, piece-back, addresses-behind}

trans : {A : Type 0} {x y z : A} → x ≡ y → y ≡ z → x ≡ z
trans e f = rw e f

drop-more : (ps : List Piece) (q : Piece) (w : ℕ) → drop (w + 1) (q ∷ ps) ≡ drop w ps
drop-more ps q w = grind (arith, common_steps)

-- the rest of the first piece
first-rest : (c : Bool) (place : ℕ) (q : Piece) (ps : List Piece) → (place == 0) ≡ c →
    addresses (if c then q ∷ ps else back place q ∷ ps) ≡ piece_addresses (back place q)
    ++ addresses ps
first-rest true place q ps e =
    let z : place ≡ 0 = grind (arith, e) in
    let h = piece-back q 0 (omega arith) in
    rw (z, h) refl
first-rest false place q ps e = refl

rest-on : (b : Bool) (place : ℕ) (q p : Piece) (ps : List Piece) → nat_lt place q.len ≡ b →
    p ≡ get_or (q ∷ ps) (pieces_before place (q ∷ ps)) p →
    (b ≡ false → p ≡ get_or ps (pieces_before (place - q.len) ps) p →
    addresses (behind (place - q.len) ps) ≡ piece_addresses (back (offset (place - q.len) ps) p)
    ++ addresses (drop (pieces_before (place - q.len) ps + 1) ps)) →
    addresses (behind place (q ∷ ps)) ≡ piece_addresses (back (offset place (q ∷ ps)) p)
    ++ addresses (drop (pieces_before place (q ∷ ps) + 1) (q ∷ ps))
rest-on true place q p ps e g f =
    let h : p ≡ q = rw e at g in
    rw (e, h) (first-rest (place == 0) place q ps refl)
rest-on false place q p ps e g f =
    let h : p ≡ get_or (q ∷ ps) (pieces_before (place - q.len) ps + 1) p = rw e at g in
    let k = f refl (trans h (get-more q ps (pieces_before (place - q.len) ps) p)) in
    rw (e, drop-more ps q (pieces_before (place - q.len) ps + 1)) k

-- what lies from a place on begins with the rest of its piece
piece_from-rest : (place : ℕ) (ps : List Piece) (p : Piece) → place < total ps →
    p ≡ get_or ps (pieces_before place ps) p → addresses (behind place ps) ≡ piece_addresses
    (back (offset place ps) p) ++ addresses (drop (pieces_before place ps + 1) ps)
piece_from-rest place [] p lt e = grind arith
piece_from-rest place (q ∷ ps) p lt e = rest-on (nat_lt place q.len) place q p ps refl e
    (λ f g. piece_from-rest (place - q.len) ps p (grind (arith, f, lt)) g)

-- the rest of the piece in which a place lies is the piece from there on
pub piece_from-whole : (place i o : ℕ) (ps : List Piece) (p rest : Piece) → place < total ps →
    i ≡ pieces_before place ps → o ≡ offset place ps → p ≡ get_or ps i p → rest ≡ back o p →
    piece_addresses rest ≡ take rest.len (drop place (addresses ps))
piece_from-whole place i o ps p rest lt ei eo ep er =
    let g : p ≡ get_or ps (pieces_before place ps) p = rw ei at ep in
    let h = piece_from-rest place ps p lt g in
    let b = addresses-behind place ps (omega (arith, lt)) in
    let r : rest ≡ back (offset place ps) p = rw eo at er in
    let n = length-piece rest in
    let k : drop place (addresses ps) ≡ piece_addresses rest
    ++ addresses (drop (pieces_before place ps + 1) ps) = rw r (trans (sym b) h) in
    rw k (sym (trans (ap
    (λ m. take m (piece_addresses rest ++ addresses (drop (pieces_before place ps + 1) ps)))
    (sym n)) (take-append_seam (piece_addresses rest)
    (addresses (drop (pieces_before place ps + 1) ps)))))

take-less : (xs : List ℕ) (a b : ℕ) → a ≤ b → take a (take b xs) ≡ take a xs
take-less xs zero b le = refl
take-less [] (suc a) zero le = refl
take-less [] (suc a) (suc b) le = refl
take-less (x ∷ xs) (suc a) zero le = grind (arith, le)
take-less (x ∷ xs) (suc a) (suc b) le = ap (λ t. x ∷ t) (take-less xs a b (omega (arith, le)))

-- and so are its first addresses
pub piece_from-part : (place i o count : ℕ) (ps : List Piece) (p rest : Piece) → place < total ps →
    i ≡ pieces_before place ps → o ≡ offset place ps → p ≡ get_or ps i p → rest ≡ back o p →
    count < rest.len → piece_addresses (front count rest) ≡ take count (drop place (addresses ps))
piece_from-part place i o count ps p rest lt ei eo ep er le =
    let h = piece_from-whole place i o ps p rest lt ei eo ep er in
    let f = piece-front rest count (omega (arith, le)) in
    trans f (trans (ap (λ t. take count t) h)
    (take-less (drop place (addresses ps)) count rest.len (omega (arith, le))))

-- a piece ends within the list
pub piece-within : (i begin place : ℕ) (ps : List Piece) (p : Piece) → total (take i ps) ≡ begin →
    i < length ps → p ≡ get_or ps i p → begin + p.len ≤ total ps
piece-within i begin place [] p e lt g = grind arith
piece-within zero begin place (q ∷ ps) p e lt g = let h : p ≡ q = g in rw h (omega (arith, e))
piece-within (suc i) begin place (q ∷ ps) p e lt g =
    let h = piece-within i (begin - q.len) place ps p (omega (arith, e)) (omega (arith, lt)) g in
    omega (arith, h, e)

pub ruleset from_a_place = (piece_from-whole, piece_from-part, piece-within)
