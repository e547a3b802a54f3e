-- Frames copied piece by piece.
use Rattle.std.proofs.Common.{◌≡◌, ◌≤◌, ◌<◌, ℕ, ◌+◌, ◌-◌, List, ◌++◌, map, length, take, drop, refl, sym, ap, arith, append_assoc, length-append, take-add, drop-drop, get_or, true, false}
use Rattle.std.proofs.lemmas.List.{length-map, length-take, ext_get_or}
use Rattle.std.proofs.lemmas.List.FromFn.{get_or-range_with_len, length-range_with_len}
use Rattle.std.proofs.Math.Seq.{take-append_seam}
use Rattle.std.specs.List.{range_with_len}
use Rattle.sl_base.specs.Sounds.{Sound, silence}
use Rattle.pieces.specs.Pieces.{Piece, address_in, piece_addresses}
use Rattle.lazy_fill.specs.Addresses.{Below}
use Rattle.layer_memory.proofs.ReadLemmas.{get-mapped, below-at}
use Rattle.layer_memory.proofs.SeenLemmas.{append-mapped}

-- the address so many places into a piece
pub piece-at : (p : Piece) (k : ℕ) → k < p.len → get_or (piece_addresses p) k 0 ≡ address_in p k
piece-at p k lt =
    let n = length-range_with_len 0 p.len in
    let e = get-mapped (address_in p) (range_with_len 0 p.len) k 0 0 (omega (arith, n, lt)) in
    let f : get_or (range_with_len 0 p.len) k 0 ≡ k = let g =
    get_or-range_with_len 0 p.len k 0 lt in omega (arith, g) in
    rw f at e

-- a piece has as many addresses as it says
pub length-piece : (p : Piece) → length (piece_addresses p) ≡ p.len
length-piece p = let a = length-map (range_with_len 0 p.len) (address_in p) in
    let b = length-range_with_len 0 p.len in omega (arith, a, b)

-- the address so many places into a forward piece
address-forward : (p : Piece) (k : ℕ) → p.backward ≡ false → address_in p k ≡ p.start + k
address-forward p k e = rw e refl

-- the addresses of a forward piece below one
pub forward-below : (n m : ℕ) (p : Piece) → 1 ≤ p.len → p.backward ≡ false → m ≡ p.len →
    Below n (piece_addresses p) → p.start + m ≤ n
forward-below n m p some e em b =
    let l = length-piece p in
    let a = below-at n (p.len - 1) (piece_addresses p) (omega (arith, l, some)) b in
    let f : get_or (piece_addresses p) (p.len - 1) 0 ≡ p.start + (p.len - 1) = let g =
    piece-at p (p.len - 1) (omega (arith, some)) in let h = address-forward p (p.len - 1) e in
    rw h at g in
    omega (arith, a, f, em, some)

-- frames that are those at the addresses of a piece
pub read-addresses : (f : ℕ → Sound) (p : Piece) (out : List Sound) → length out ≡ p.len →
    ((k : ℕ) → k < p.len → get_or out k silence ≡ f (address_in p k)) →
    out ≡ map f (piece_addresses p)
read-addresses f p out e at_k = ext_get_or silence out (map f (piece_addresses p))
    (let a = length-map (piece_addresses p) f in let b = length-piece p in omega (arith, a, b, e))
    (λ i lt.
    let within : i < p.len = omega (arith, e, lt) in
    let l = length-piece p in
    let g = get-mapped f (piece_addresses p) i 0 silence (omega (arith, l, within)) in
    rw (at_k i within, g, piece-at p i within) refl)

-- forward, and backward
pub read-ahead : (f : ℕ → Sound) (p : Piece) (n : ℕ) (out : List Sound) → length out ≡ n →
    n ≡ p.len → p.backward ≡ false → ((k : ℕ) → k < n → get_or out k silence ≡ f (p.start + k)) →
    out ≡ map f (piece_addresses p)
read-ahead f p n out e en eb at_k =
    read-addresses f p out (omega (arith, e, en)) (λ k lt. rw eb (at_k k (omega (arith, lt, en))))

-- frames read backward are those of the piece
pub read-back : (f : ℕ → Sound) (p : Piece) (n : ℕ) (out : List Sound) → length out ≡ n →
    n ≡ p.len → p.backward ≡ true → ((k : ℕ) → k < n → get_or out k silence ≡ f (p.start - k)) →
    out ≡ map f (piece_addresses p)
read-back f p n out e en eb at_k =
    read-addresses f p out (omega (arith, e, en)) (λ k lt. rw eb (at_k k (omega (arith, lt, en))))

-- one stretch more of a list
pub more-taken : (f : ℕ → Sound) (xs : List ℕ) (place done count : ℕ) (front part : List Sound) →
    front ≡ map f (take done (drop place xs)) → part ≡ map f (take count (drop (place + done) xs)) →
    front ++ part ≡ map f (take (done + count) (drop place xs))
more-taken f xs place done count front part ef ep =
    let e : take (done + count) (drop place xs) ≡ take done (drop place xs)
    ++ take count (drop done (drop place xs)) = take-add done count (drop place xs) in
    let g : drop done (drop place xs) ≡ drop (place + done) xs = drop-drop done place xs in
    rw (
      ef,
      ep,
      e,
      g,
      append-mapped f (take done (drop place xs))
          (take count (drop (place + done) xs)),
    ) refl

-- what stands before a part that was replaced, with the part
pub taken-replaced : (xs ys rest : List Sound) (a n : ℕ) → length ys ≡ n → a ≤ length xs →
    take (a + n) (take a xs ++ (ys ++ rest)) ≡ take a xs ++ ys
taken-replaced xs ys rest a n en le =
    let la : length (take a xs) ≡ a = let l = length-take a xs in omega (arith, l, le) in
    let assoc = append_assoc (take a xs) ys rest in
    let len : length (take a xs ++ ys) ≡ a + n = let l = length-append (take a xs) ys in
    omega (arith, l, la, en) in
    rw (sym assoc, sym len) (take-append_seam (take a xs ++ ys) rest)

-- the frames so far with those of one piece more
pub span-more : (f : ℕ → Sound) (xs : List ℕ) (p : Piece) (place done count : ℕ)
    (out part rest new : List Sound) → done ≤ length out →
    take done out ≡ map f (take done (drop place xs)) → part ≡ map f (piece_addresses p) →
    piece_addresses p ≡ take p.len (drop (place + done) xs) → count ≡ p.len → new ≡ take done out
    ++ (part ++ rest) → take (done + count) new ≡ map f (take (done + count) (drop place xs))
span-more f xs p place done count out part rest new le value ep ea ec en =
    let long : length part ≡ count = let a = ap length ep in let b =
    length-map (piece_addresses p) f in let c = length-piece p in omega (arith, a, b, c, ec) in
    let taken = taken-replaced out part rest done count long le in
    let more = more-taken f xs place done count (take done out) part value (rw (ep, ea, ec) refl) in
    rw (en, taken) more

pub ruleset pieces = (forward-below, read-ahead, read-back)

pub ruleset spans = (length-piece)
