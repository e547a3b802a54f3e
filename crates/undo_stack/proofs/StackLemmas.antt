-- A stack of ranges of pieces.
use Rattle.std.proofs.Common.{◌≡◌, ◌≢◌, ◌≤◌, ◌<◌, ℕ, ◌+◌, ◌-◌, List, [], ◌∷◌, ◌++◌, map, length, take, drop, reverse, refl, sym, ap, arith, suc, zero, get_or, length-append, length-drop}
use Rattle.std.proofs.lemmas.List.{reverse-append, length-map, length-take-le, length-reverse}
use Rattle.std.proofs.lemmas.List.Sums.{sum_by-cons}
use Rattle.std.proofs.Math.Seq.{drop-append_seam}
use Rattle.std.specs.List.{AllByRecursion}
use Rattle.sl_base.specs.Limits.{max_layers, max_list_frames, max_seams}
use Rattle.looper_rules.specs.Layers.{Layer, contents, old_cells, seams_of, total_seams, current_list, current_seams}
use Rattle.pieces.specs.Pieces.{Piece, addresses, Solid, total}
use Rattle.pieces.specs.Splitting.{IsHint}
use Rattle.pieces.proofs.SplittingLemmas.{hint-front}
use Rattle.pieces.proofs.AddressLemmas.{length-addresses}
use Rattle.undo_stack.specs.Layered.{IsPieced, newest_pieces, layers_undone, layers_redone, layers_kept, layers_added}
use Rattle.undo_stack.specs.Ranges.{range, layer_of, layers_at, Laid, seams_in, IsMeasured, AreRanges}
use Rattle.undo_stack.specs.declared.stack.Mark.{Mark}

contents-old : (xs : List ℕ) → contents (old_cells xs) ≡ xs
contents-old [] = refl
contents-old (x ∷ xs) = ap (λ t. x ∷ t) (contents-old xs)

abbrev AreMeasured : List Piece → List Mark → Type 0
AreMeasured ps ms = AllByRecursion (IsMeasured ps) ms

append-mapped : {A B : Type 0} (g : A → B) (xs ys : List A) →
    map g (xs ++ ys) ≡ map g xs ++ map g ys
append-mapped g [] ys = refl
append-mapped g (x ∷ xs) ys = ap (λ t. g x ∷ t) (append-mapped g xs ys)

-- the mark at an index, between those before and those behind it
take-more : (k : ℕ) (ms : List Mark) (d : Mark) → k < length ms →
    take (suc k) ms ≡ take k ms ++ get_or ms k d ∷ []
take-more k [] d lt = grind arith
take-more zero (m ∷ ms) d lt = refl
take-more (suc k) (m ∷ ms) d lt = ap (λ t. m ∷ t) (take-more k ms d (omega (arith, lt)))

drop-at : (k : ℕ) (ms : List Mark) (d : Mark) → k < length ms →
    drop k ms ≡ get_or ms k d ∷ drop (suc k) ms
drop-at k [] d lt = grind arith
drop-at zero (m ∷ ms) d lt = refl
drop-at (suc k) (m ∷ ms) d lt = drop-at k ms d (omega (arith, lt))

none : Mark
none = record { start = 0; count = 0; length = 0; cycle = 0; end = 0; seams = 0 }

layers-more : (ps : List Piece) (ms : List Mark) (k : ℕ) → k < length ms →
    reverse (map (layer_of ps) (take (suc k) ms)) ≡ layer_of ps (get_or ms k none)
    ∷ reverse (map (layer_of ps) (take k ms))
layers-more ps ms k lt =
    rw (
      take-more k ms none lt,
      append-mapped (layer_of ps) (take k ms) (get_or ms k none ∷ []),
      reverse-append (map (layer_of ps) (take k ms)) (layer_of ps (get_or ms k none) ∷ []),
    ) refl

redo-more : (ps : List Piece) (ms : List Mark) (k : ℕ) → k < length ms →
    map (layer_of ps) (drop k ms)
    ≡ layer_of ps (get_or ms k none) ∷ map (layer_of ps) (drop (suc k) ms)
redo-more ps ms k lt = rw (drop-at k ms none lt) refl

-- one layer fewer is an undo
pub undone-at : (ps : List Piece) (ms : List Mark) (n k : ℕ) → n ≡ suc k → k < length ms →
    layers_at ps ms k ≡ layers_undone (layers_at ps ms n)
undone-at ps ms n k e lt = rw (e, layers-more ps ms k lt, redo-more ps ms k lt) refl

-- one layer more is a redo
pub redone-at : (ps : List Piece) (ms : List Mark) (n k : ℕ) → n ≡ suc k → k < length ms →
    layers_at ps ms n ≡ layers_redone (layers_at ps ms k)
redone-at ps ms n k e lt = rw (e, layers-more ps ms k lt, redo-more ps ms k lt) refl

-- seams
total-layer_of : (ps : List Piece) (ms : List Mark) →
    total_seams (map (layer_of ps) ms) ≡ seams_in ms
total-layer_of ps [] = refl
total-layer_of ps (m ∷ ms) = let h = total-layer_of ps ms in
    let s = sum_by-cons seams_of (layer_of ps m) (map (layer_of ps) ms) in omega (arith, h, s)

total-append : (xs ys : List (Layer ℕ)) → total_seams (xs ++ ys) ≡ total_seams xs + total_seams ys
total-append [] ys = omega arith
total-append (x ∷ xs) ys = let h = total-append xs ys in let a =
    sum_by-cons seams_of x (xs ++ ys) in let b = sum_by-cons seams_of x xs in omega (arith, h, a, b)

total-reverse : (ls : List (Layer ℕ)) → total_seams (reverse ls) ≡ total_seams ls
total-reverse [] = refl
total-reverse (l ∷ ls) =
    let h = total-reverse ls in
    let e : reverse (l ∷ ls) ≡ reverse ls ++ l ∷ [] = reverse-append (l ∷ []) ls in
    let a = total-append (reverse ls) (l ∷ []) in
    let b = sum_by-cons seams_of l ls in
    let c = sum_by-cons seams_of l [] in
    rw e (omega (arith, h, a, b, c))

seams-parts : (n : ℕ) (ms : List Mark) → seams_in (take n ms) + seams_in (drop n ms) ≡ seams_in ms
seams-parts zero ms = omega arith
seams-parts (suc n) [] = omega arith
seams-parts (suc n) (m ∷ ms) = let h = seams-parts n ms in omega (arith, h)

-- the seams of layers and redo layers are those of all marks
pub total-stack : (ps : List Piece) (ms : List Mark) (n : ℕ) →
    total_seams (reverse (map (layer_of ps) (take n ms))) + total_seams
    (map (layer_of ps) (drop n ms))
    ≡ seams_in ms
total-stack ps ms n =
    let a = total-reverse (map (layer_of ps) (take n ms)) in
    let b = total-layer_of ps (take n ms) in
    let c = total-layer_of ps (drop n ms) in
    let d = seams-parts n ms in
    omega (arith, a, b, c, d)

-- ranges
pub laid-order : (from to : ℕ) (ms : List Mark) → Laid from to ms → from ≤ to
laid-order from to [] l = omega (arith, l)
laid-order from to (m ∷ ms) l = let h = laid-order (from + m.count) to ms l.1.1 in omega (arith, h)

laid-within : (from to : ℕ) (ms : List Mark) → Laid from to ms → to ≤ from + seams_in ms
laid-within from to [] l = omega (arith, l)
laid-within from to (m ∷ ms) l = let h = laid-within (from + m.count) to ms l.1.1 in
    omega (arith, h, l.1.0)

abbrev Inside : ℕ → List Mark → Type 0
Inside to ms = AllByRecursion (λ m. m.start + m.count ≤ to) ms

laid-inside : (from to : ℕ) (ms : List Mark) → Laid from to ms → Inside to ms
laid-inside from to [] l = tt
laid-inside from to (m ∷ ms) l = (
  let h = laid-order (from + m.count) to ms l.1.1 in
      omega (arith, h, l.0),
  laid-inside (from + m.count) to ms l.1.1,
)

-- the pieces of a mark end within those laid
pub laid-at : (from to k : ℕ) (ms : List Mark) (d : Mark) → k < length ms → Laid from to ms →
    (get_or ms k d).start + (get_or ms k d).count ≤ to
laid-at from to k [] d lt l = grind arith
laid-at from to zero (m ∷ ms) d lt l = let h = laid-order (from + m.count) to ms l.1.1 in
    omega (arith, h, l.0)
laid-at from to (suc k) (m ∷ ms) d lt l =
    laid-at (from + m.count) to k ms d (omega (arith, lt)) l.1.1

-- a mark has at most as many pieces as seams
pub laid-few : (from to k : ℕ) (ms : List Mark) (d : Mark) → k < length ms → Laid from to ms →
    (get_or ms k d).count ≤ (get_or ms k d).seams
laid-few from to k [] d lt l = grind arith
laid-few from to zero (m ∷ ms) d lt l = l.1.0
laid-few from to (suc k) (m ∷ ms) d lt l =
    laid-few (from + m.count) to k ms d (omega (arith, lt)) l.1.1

laid-take : (from to k : ℕ) (ms : List Mark) (d : Mark) → k < length ms → Laid from to ms →
    Laid from ((get_or ms k d).start + (get_or ms k d).count) (take (suc k) ms)
laid-take from to k [] d lt l = grind arith
laid-take from to zero (m ∷ ms) d lt l = (l.0, (l.1.0, omega (arith, l.0)))
laid-take from to (suc k) (m ∷ ms) d lt l =
    (l.0, (l.1.0, laid-take (from + m.count) to k ms d (omega (arith, lt)) l.1.1))

laid-more : (from to : ℕ) (ms : List Mark) (m : Mark) → m.start ≡ to → m.count ≤ m.seams →
    Laid from to ms → Laid from (to + m.count) (ms ++ m ∷ [])
laid-more from to [] m e le l = (omega (arith, e, l), (le, omega (arith, l)))
laid-more from to (x ∷ ms) m e le l = (l.0, (l.1.0, laid-more (from + x.count) to ms m e le l.1.1))

-- pieces behind a range change nothing of it, nor does a cut there
range-more : (s c : ℕ) (ps qs : List Piece) → s + c ≤ length ps →
    take c (drop s (ps ++ qs)) ≡ take c (drop s ps)
range-more zero zero ps qs le = refl
range-more zero (suc c) [] qs le = grind arith
range-more zero (suc c) (p ∷ ps) qs le =
    ap (λ t. p ∷ t) (range-more zero c ps qs (omega (arith, le)))
range-more (suc s) c [] qs le = grind arith
range-more (suc s) c (p ∷ ps) qs le = range-more s c ps qs (omega (arith, le))

range-cut : (s c b : ℕ) (ps : List Piece) → s + c ≤ b →
    take c (drop s (take b ps)) ≡ take c (drop s ps)
range-cut zero zero b ps le = refl
range-cut zero (suc c) zero ps le = grind arith
range-cut zero (suc c) (suc b) [] le = refl
range-cut zero (suc c) (suc b) (p ∷ ps) le =
    ap (λ t. p ∷ t) (range-cut zero c b ps (omega (arith, le)))
range-cut (suc s) c zero ps le = grind arith
range-cut (suc s) c (suc b) [] le = refl
range-cut (suc s) c (suc b) (p ∷ ps) le = range-cut s c b ps (omega (arith, le))

layer_of-more : (ps qs : List Piece) (ms : List Mark) → Inside (length ps) ms →
    map (layer_of (ps ++ qs)) ms ≡ map (layer_of ps) ms
layer_of-more ps qs [] i = refl
layer_of-more ps qs (m ∷ ms) i =
    rw (range-more m.start m.count ps qs i.0, layer_of-more ps qs ms i.1) refl

layer_of-cut : (b : ℕ) (ps : List Piece) (ms : List Mark) → Inside b ms →
    map (layer_of (take b ps)) ms ≡ map (layer_of ps) ms
layer_of-cut b ps [] i = refl
layer_of-cut b ps (m ∷ ms) i =
    rw (range-cut m.start m.count b ps i.0, layer_of-cut b ps ms i.1) refl

ranges-more : (ps qs : List Piece) (ms : List Mark) → Inside (length ps) ms →
    map (range (ps ++ qs)) ms ≡ map (range ps) ms
ranges-more ps qs [] i = refl
ranges-more ps qs (m ∷ ms) i =
    rw (range-more m.start m.count ps qs i.0, ranges-more ps qs ms i.1) refl

ranges-cut : (b : ℕ) (ps : List Piece) (ms : List Mark) → Inside b ms →
    map (range (take b ps)) ms ≡ map (range ps) ms
ranges-cut b ps [] i = refl
ranges-cut b ps (m ∷ ms) i = rw (range-cut m.start m.count b ps i.0, ranges-cut b ps ms i.1) refl

take-take : {A : Type 0} (n : ℕ) (xs : List A) → take n (take n xs) ≡ take n xs
take-take zero xs = refl
take-take (suc n) [] = refl
take-take (suc n) (x ∷ xs) = ap (λ t. x ∷ t) (take-take n xs)

drop-take-none : {A : Type 0} (n : ℕ) (xs : List A) → drop n (take n xs) ≡ []
drop-take-none zero xs = refl
drop-take-none (suc n) [] = refl
drop-take-none (suc n) (x ∷ xs) = drop-take-none n xs

-- so many marks are so many layers
pub length-layers : (ps : List Piece) (ms : List Mark) (n : ℕ) → n ≤ length ms →
    length (reverse (map (layer_of ps) (take n ms))) ≡ n
length-layers ps ms n le =
    let a = length-reverse (map (layer_of ps) (take n ms)) in
    let b = length-map (take n ms) (layer_of ps) in
    let c = length-take-le n ms le in
    omega (arith, a, b, c)

take-mapped : {A B : Type 0} (f : A → B) (n : ℕ) (xs : List A) →
    take n (map f xs) ≡ map f (take n xs)
take-mapped f zero xs = refl
take-mapped f (suc n) [] = refl
take-mapped f (suc n) (x ∷ xs) = ap (λ t. f x ∷ t) (take-mapped f n xs)

-- without redo layers
layer_of-at : (ps : List Piece) (ms : List Mark) (k from to : ℕ) (d : Mark) → k < length ms →
    Laid from to ms → layers_at (take ((get_or ms k d).start + (get_or ms k d).count) ps)
    (take (suc k) ms) (suc k) ≡ layers_kept (layers_at ps ms (suc k))
layer_of-at ps ms k from to d lt l =
    let i : Inside ((get_or ms k d).start + (get_or ms k d).count) (take (suc k) ms) =
    laid-inside from ((get_or ms k d).start + (get_or ms k d).count) (take (suc k) ms)
    (laid-take from to k ms d lt l) in
    rw (
      take-take (suc k) ms,
      drop-take-none (suc k) ms,
      layer_of-cut ((get_or ms k d).start + (get_or ms k d).count) ps (take (suc k) ms) i,
      ranges-cut ((get_or ms k d).start + (get_or ms k d).count) ps (take (suc k) ms) i,
      length-layers ps ms (suc k) (omega (arith, lt)),
      take-mapped (range ps) (suc k) ms,
    ) refl

-- the redo layers dropped
pub dropped-all : (ps ps' : List Piece) (ms ms' : List Mark) (n b from to : ℕ) (m : Mark) → n ≢ 0 →
    n ≤ length ms → m ≡ get_or ms (n - 1) m → Laid from to ms → b ≡ m.start + m.count →
    ps' ≡ take b ps → ms' ≡ take n ms → layers_at ps' ms' n ≡ layers_kept (layers_at ps ms n)
dropped-all ps ps' ms ms' zero b from to m ne le em l eb ep es = absurd (ne refl)
dropped-all ps ps' ms ms' (suc k) b from to m ne le em l eb ep es =
    let z : suc k - 1 ≡ k = omega arith in
    let g : m ≡ get_or ms k m = rw z at em in
    let c : b ≡ (get_or ms k m).start + (get_or ms k m).count = rw (sym g) eb in
    rw (ep, es, c) (layer_of-at ps ms k from to m (omega (arith, le)) l)

-- fewer marks have fewer seams
pub seams-cut : (n : ℕ) (ms : List Mark) → seams_in (take n ms) ≤ seams_in ms
seams-cut n ms = let h = seams-parts n ms in omega (arith, h)

all-take : {A : Type 0} (P : A → Type 0) (n : ℕ) (xs : List A) → AllByRecursion P xs →
    AllByRecursion P (take n xs)
all-take P zero xs a = tt
all-take P (suc n) [] a = tt
all-take P (suc n) (x ∷ xs) a = (a.0, all-take P n xs a.1)

-- the first pieces have none that is empty
pub solid-take : (n : ℕ) (ps : List Piece) → Solid ps → Solid (take n ps)
solid-take n ps s = all-take (λ p. 1 ≤ p.len) n ps s

solid-drop : (n : ℕ) (ps : List Piece) → Solid ps → Solid (drop n ps)
solid-drop zero ps s = s
solid-drop (suc n) [] s = tt
solid-drop (suc n) (p ∷ ps) s = solid-drop n ps s.1

-- nor have some in the middle
pub solid-range : (s c : ℕ) (ps : List Piece) → Solid ps → Solid (take c (drop s ps))
solid-range s c ps h = solid-take c (drop s ps) (solid-drop s ps h)

measured-cut : (b : ℕ) (ps : List Piece) (ms : List Mark) → Inside b ms → AreMeasured ps ms →
    AreMeasured (take b ps) ms
measured-cut b ps [] i a = tt
measured-cut b ps (m ∷ ms) i a =
    (rw (range-cut m.start m.count b ps i.0) a.0, measured-cut b ps ms i.1 a.1)

measured-more : (ps qs : List Piece) (ms : List Mark) → Inside (length ps) ms → AreMeasured ps ms →
    AreMeasured (ps ++ qs) ms
measured-more ps qs [] i a = tt
measured-more ps qs (m ∷ ms) i a =
    (rw (range-more m.start m.count ps qs i.0) a.0, measured-more ps qs ms i.1 a.1)

all-measured : (ps : List Piece) (n : ℕ) (ms : List Mark) → AreMeasured ps ms →
    AreMeasured ps (take n ms)
all-measured ps n ms a = all-take (IsMeasured ps) n ms a

holds-cut : (ps : List Piece) (ms : List Mark) (k : ℕ) (d : Mark) → AreRanges ps ms (suc k) →
    AreRanges (take ((get_or ms k d).start + (get_or ms k d).count) ps) (take (suc k) ms) (suc k)
holds-cut ps ms k d h =
    let lt : k < length ms = let w = h.within in omega (arith, w) in
    let b : ℕ = (get_or ms k d).start + (get_or ms k d).count in
    let at = laid-at 0 (length ps) k ms d lt h.laid in
    let l = laid-take 0 (length ps) k ms d lt h.laid in
    let n = length-take-le (suc k) ms h.within in
    record {
      laid = rw (length-take-le ((get_or ms k d).start + (get_or ms k d).count) ps at) l;
      solid = solid-take ((get_or ms k d).start + (get_or ms k d).count) ps h.solid;
      within = omega (arith, n);
      count = let w = h.within in let c = h.count in omega (arith, n, w, c);
      seams = let x = seams-cut (suc k) ms in let y = h.seams in omega (arith, x, y);
      measured = measured-cut ((get_or ms k d).start + (get_or ms k d).count) ps (take (suc k) ms)
          (laid-inside 0 ((get_or ms k d).start + (get_or ms k d).count) (take (suc k) ms) l)
          (all-measured ps (suc k) ms h.measured);
    }

-- what always holds, with the redo layers dropped
pub holds-cut-at : (ps ps' : List Piece) (ms ms' : List Mark) (n b : ℕ) (m : Mark) → n ≢ 0 →
    m ≡ get_or ms (n - 1) m → AreRanges ps ms n → b ≡ m.start + m.count → ps' ≡ take b ps →
    ms' ≡ take n ms → AreRanges ps' ms' n
holds-cut-at ps ps' ms ms' zero b m ne em h eb ep es = absurd (ne refl)
holds-cut-at ps ps' ms ms' (suc k) b m ne em h eb ep es =
    let z : suc k - 1 ≡ k = omega arith in
    let g : m ≡ get_or ms k m = rw z at em in
    let c : b ≡ (get_or ms k m).start + (get_or ms k m).count = rw (sym g) eb in
    rw (ep, es, c) (holds-cut ps ms k m h)

-- a layer more
seams-append : (xs ys : List Mark) → seams_in (xs ++ ys) ≡ seams_in xs + seams_in ys
seams-append [] ys = omega arith
seams-append (x ∷ xs) ys = let h = seams-append xs ys in omega (arith, h)

all-append : {A : Type 0} (P : A → Type 0) (xs ys : List A) → AllByRecursion P xs →
    AllByRecursion P ys → AllByRecursion P (xs ++ ys)
all-append P [] ys a b = b
all-append P (x ∷ xs) ys a b = (a.0, all-append P xs ys a.1 b)

drop-none : {A : Type 0} (n : ℕ) (xs : List A) → drop n xs ≡ [] → length xs ≤ n
drop-none zero [] e = omega arith
drop-none zero (x ∷ xs) e = let f : length (x ∷ xs) ≡ 0 = ap (λ t. length t) e in omega (arith, f)
drop-none (suc n) [] e = omega arith
drop-none (suc n) (x ∷ xs) e = let h = drop-none n xs e in omega (arith, h)

map-none : (ps : List Piece) (ms : List Mark) → map (layer_of ps) ms ≡ [] → ms ≡ []
map-none ps [] e = refl
map-none ps (m ∷ ms) e = let f : length (map (layer_of ps) (m ∷ ms)) ≡ 0 = ap (λ t. length t) e in
    grind (arith, f)

take-all : {A : Type 0} (n : ℕ) (xs : List A) → length xs ≤ n → take n xs ≡ xs
take-all zero [] le = refl
take-all zero (x ∷ xs) le = grind arith
take-all (suc n) [] le = refl
take-all (suc n) (x ∷ xs) le = ap (λ t. x ∷ t) (take-all n xs (omega (arith, le)))

drop-all : {A : Type 0} (n : ℕ) (xs : List A) → length xs ≤ n → drop n xs ≡ []
drop-all zero [] le = refl
drop-all zero (x ∷ xs) le = grind arith
drop-all (suc n) [] le = refl
drop-all (suc n) (x ∷ xs) le = drop-all n xs (omega (arith, le))

range-last : (ps qs : List Piece) → take (length qs) (drop (length ps) (ps ++ qs)) ≡ qs
range-last ps qs = rw (drop-append_seam ps qs) (take-all (length qs) qs (omega arith))

-- one layer more fits
pub room-added : (ps : List Piece) (ms : List Mark) (n seams : ℕ) (redo : List (Layer ℕ)) →
    AreRanges ps ms n → redo ≡ map (layer_of ps) (drop n ms) → redo ≡ [] →
    total_seams (reverse (map (layer_of ps) (take n ms))) + seams ≤ max_seams →
    (length ps + seams ≤ max_seams) × (seams_in ms + seams ≤ max_seams)
room-added ps ms n seams redo h er en le =
    let t = total-stack ps ms n in
    let z : total_seams (map (layer_of ps) (drop n ms)) ≡ 0 = rw (sym er, en) refl in
    let w = laid-within 0 (length ps) ms h.laid in
    (omega (arith, t, z, w, le), omega (arith, t, z, le))

-- one layer more on top
pub added-at : (ps ps' qs : List Piece) (ms ms' : List Mark) (n : ℕ) (m : Mark) →
    AreRanges ps ms n → map (layer_of ps) (drop n ms) ≡ [] → m.start ≡ length ps →
    m.count ≡ length qs →
    ps' ≡ ps ++ qs → ms' ≡ ms ++ m ∷ [] →
    layers_at ps' ms' (n + 1) ≡ layers_added qs m.cycle m.end m.seams (layers_at ps ms n)
added-at ps ps' qs ms ms' n m h none es ec ep em =
    let len : length ms ≤ n = drop-none n ms (map-none ps (drop n ms) none) in
    let more : length (ms ++ m ∷ []) ≤ n + 1 = let a = length-append ms (m ∷ []) in
    omega (arith, a, len) in
    let i : Inside (length ps) ms = laid-inside 0 (length ps) ms h.laid in
    let r : range (ps ++ qs) m ≡ qs = rw (es, ec) (range-last ps qs) in
    rw (
      ep,
      em,
      take-all (n + 1) (ms ++ m ∷ []) more,
      drop-all (n + 1) (ms ++ m ∷ []) more,
      take-all n ms len,
      append-mapped (layer_of (ps ++ qs)) ms (m ∷ []),
      append-mapped (range (ps ++ qs)) ms (m ∷ []),
      layer_of-more ps qs ms i,
      ranges-more ps qs ms i,
      reverse-append (map (layer_of ps) ms) (layer_of (ps ++ qs) m ∷ []),
      r,
    ) refl

-- what always holds, with one layer more
pub holds-added : (ps ps' qs : List Piece) (ms ms' : List Mark) (n : ℕ) (m : Mark) →
    AreRanges ps ms n → map (layer_of ps) (drop n ms) ≡ [] → m.start ≡ length ps →
    m.count ≡ length qs →
    m.count ≤ m.seams → seams_in ms + m.seams ≤ max_seams → n < max_layers → Solid qs →
    m.length ≡ length (addresses qs) → length (addresses qs) ≤ max_list_frames → ps' ≡ ps ++ qs →
    ms' ≡ ms ++ m ∷ [] → AreRanges ps' ms' (n + 1)
holds-added ps ps' qs ms ms' n m h none es ec few fit count sq el short ep em =
    let len : length ms ≤ n = drop-none n ms (map-none ps (drop n ms) none) in
    let a = length-append ms (m ∷ []) in
    let b = length-append ps qs in
    let i : Inside (length ps) ms = laid-inside 0 (length ps) ms h.laid in
    let to : length (ps ++ qs) ≡ length ps + m.count = omega (arith, b, ec) in
    rw (ep, em) (record {
      laid = rw to (laid-more 0 (length ps) ms m es few h.laid);
      solid = all-append (λ p. 1 ≤ p.len) ps qs h.solid sq;
      within = let w = h.within in omega (arith, a, w);
      count = omega (arith, a, len, count);
      seams = let s = seams-append ms (m ∷ []) in omega (arith, s, fit);
      measured = all-append (IsMeasured (ps ++ qs)) ms (m ∷ [])
          (measured-more ps qs ms i h.measured)
          (rw (es, ec, range-last ps qs) (el, rw el short), tt);
    })

-- the current layer
current-of : (ps : List Piece) (ms : List Mark) (k : ℕ) (d : Mark) → k < length ms →
    current_list (reverse (map (layer_of ps) (take (suc k) ms))) ≡ addresses
    (take (get_or ms k d).count (drop (get_or ms k d).start ps))
current-of ps ms k d lt =
    rw (
      take-more k ms d lt,
      append-mapped (layer_of ps) (take k ms) (get_or ms k d ∷ []),
      reverse-append (map (layer_of ps) (take k ms)) (layer_of ps (get_or ms k d) ∷ []),
    )
    (contents-old (addresses (take (get_or ms k d).count (drop (get_or ms k d).start ps))))

current-seams-of : (ps : List Piece) (ms : List Mark) (k : ℕ) (d : Mark) → k < length ms →
    current_seams (reverse (map (layer_of ps) (take (suc k) ms))) ≡ (get_or ms k d).seams
current-seams-of ps ms k d lt =
    rw (
      take-more k ms d lt,
      append-mapped (layer_of ps) (take k ms) (get_or ms k d ∷ []),
      reverse-append (map (layer_of ps) (take k ms)) (layer_of ps (get_or ms k d) ∷ []),
    ) refl

-- the pieces of the current layer stand for its list
pub current-range : (ps : List Piece) (ms : List Mark) (n c : ℕ) (m : Mark) → n ≢ 0 →
    n ≤ length ms → m ≡ get_or ms (n - 1) m → c ≡ m.count →
    addresses (take c (drop m.start ps)) ≡ current_list (reverse (map (layer_of ps) (take n ms)))
current-range ps ms zero c m ne le em ec = absurd (ne refl)
current-range ps ms (suc k) c m ne le em ec =
    let z : suc k - 1 ≡ k = omega arith in
    let g : m ≡ get_or ms k m = rw z at em in
    rw (current-of ps ms k m (omega (arith, le)), sym g, ec) refl

length-take-most : {A : Type 0} (k : ℕ) (xs : List A) → length (take k xs) ≤ k
length-take-most zero xs = omega arith
length-take-most (suc k) [] = omega arith
length-take-most (suc k) (x ∷ xs) = let h = length-take-most k xs in omega (arith, h)

-- they are at most as many as its seams
pub current-few : (ps : List Piece) (ms : List Mark) (n c : ℕ) (m : Mark) → n ≢ 0 →
    AreRanges ps ms n → m ≡ get_or ms (n - 1) m → c ≡ m.count →
    length (take c (drop m.start ps)) ≤ current_seams (reverse (map (layer_of ps) (take n ms)))
current-few ps ms zero c m ne h em ec = absurd (ne refl)
current-few ps ms (suc k) c m ne h em ec =
    let z : suc k - 1 ≡ k = omega arith in
    let lt : k < length ms = let w = h.within in omega (arith, w) in
    let g : m ≡ get_or ms k m = rw z at em in
    let f : m.count ≤ m.seams = rw (sym g) at (laid-few 0 (length ps) k ms m lt h.laid) in
    let t = length-take-most c (drop m.start ps) in
    let e : current_seams (reverse (map (layer_of ps) (take (suc k) ms))) ≡ m.seams =
    rw (sym g) at (current-seams-of ps ms k m lt) in
    omega (arith, f, t, e, ec)

get-mapped : (ps : List Piece) (ms : List Mark) (k : ℕ) (m : Mark) → k < length ms →
    m ≡ get_or ms k m → get_or (map (range ps) ms) k [] ≡ range ps m
get-mapped ps [] k m lt e = grind arith
get-mapped ps (x ∷ ms) zero m lt e = let g : m ≡ x = e in rw g refl
get-mapped ps (x ∷ ms) (suc k) m lt e = get-mapped ps ms k m (omega (arith, lt)) e

-- the pieces of a layer
pub layer-value : (ps : List Piece) (ms : List Mark) (k c : ℕ) (m : Mark) → k < length ms →
    m ≡ get_or ms k m → c ≡ m.count → take c (drop m.start ps) ≡ get_or (map (range ps) ms) k []
layer-value ps ms k c m lt e ec = rw (get-mapped ps ms k m lt e, ec) refl

-- they are the newest
pub current-value : (ps : List Piece) (ms : List Mark) (n c : ℕ) (m : Mark) → n ≢ 0 →
    n ≤ length ms → m ≡ get_or ms (n - 1) m → c ≡ m.count → take c (drop m.start ps) ≡ newest_pieces
    (reverse (map (layer_of ps) (take n ms))) (map (range ps) ms)
current-value ps ms zero c m ne le em ec = absurd (ne refl)
current-value ps ms (suc k) c m ne le em ec =
    let z : suc k - 1 ≡ k = omega arith in
    let g : m ≡ get_or ms k m = rw z at em in
    let lt : k < length ms = omega (arith, le) in
    rw (layers-more ps ms k lt, length-layers ps ms k (omega (arith, le)))
    (layer-value ps ms k c m lt g ec)

measured-at : (ps : List Piece) (ms : List Mark) (k : ℕ) (m : Mark) → k < length ms →
    m ≡ get_or ms k m → AreMeasured ps ms → IsMeasured ps m
measured-at ps [] k m lt e a = grind arith
measured-at ps (x ∷ ms) zero m lt e a = let g : m ≡ x = e in rw g a.0
measured-at ps (x ∷ ms) (suc k) m lt e a = measured-at ps ms k m (omega (arith, lt)) e a.1

-- the current layer's length is its list's, and within bounds
pub current-measured : (ps : List Piece) (ms : List Mark) (n : ℕ) (m : Mark) → n ≢ 0 →
    AreRanges ps ms n → m ≡ get_or ms (n - 1) m →
    (m.length ≡ length (current_list (reverse (map (layer_of ps) (take n ms)))))
    × (m.length ≤ max_list_frames)
current-measured ps ms zero m ne h em = absurd (ne refl)
current-measured ps ms (suc k) m ne h em =
    let z : suc k - 1 ≡ k = omega arith in
    let g : m ≡ get_or ms k m = rw z at em in
    let lt : k < length ms = let w = h.within in omega (arith, w) in
    let a = measured-at ps ms k m lt g h.measured in
    (rw (current-of ps ms k m lt, sym g) a.0, a.1)

-- the length alone
pub current-length : (ps : List Piece) (ms : List Mark) (n : ℕ) (m : Mark) → n ≢ 0 →
    AreRanges ps ms n → m ≡ get_or ms (n - 1) m →
    m.length ≡ length (current_list (reverse (map (layer_of ps) (take n ms))))
current-length ps ms n m ne h em = (current-measured ps ms n m ne h em).0

-- the bound alone
pub current-short : (ps : List Piece) (ms : List Mark) (n : ℕ) (m : Mark) → n ≢ 0 →
    AreRanges ps ms n → m ≡ get_or ms (n - 1) m → m.length ≤ max_list_frames
current-short ps ms n m ne h em = (current-measured ps ms n m ne h em).1

-- how many layers there are
pub count-pieces : (ps : List Piece) (ms : List Mark) (n : ℕ) → n ≤ length ms →
    length (map (range ps) ms) ≡ length (reverse (map (layer_of ps) (take n ms)))
    + length (map (layer_of ps) (drop n ms))
count-pieces ps ms n le =
    let a = length-layers ps ms n le in
    let b = length-map (drop n ms) (layer_of ps) in
    let c = length-map ms (range ps) in
    let d = length-drop n ms in
    omega (arith, a, b, c, d, le)

-- a list within the limit has a total that fits
pub short-total : (ps : List Piece) → length (addresses ps) ≤ max_list_frames →
    total ps < 4294967296
short-total ps le = let n = length-addresses ps in omega (arith, n, le)

-- the length of a list is that of its pieces
pub total-current : (n : ℕ) (ps : List Piece) (xs : List ℕ) → n ≡ length xs → addresses ps ≡ xs →
    n ≡ total ps
total-current n ps xs e f = let k = length-addresses ps in rw (e, sym f) k

-- a place of a list is one of its pieces
pub place-current : (place : ℕ) (ps : List Piece) (xs : List ℕ) → place ≤ length xs →
    addresses ps ≡ xs → place ≤ total ps
place-current place ps xs le f = let k = length-addresses ps in
    let h : place ≤ length (addresses ps) = rw f le in omega (arith, k, h)

-- a layer's range lies within the pieces
pub layer-within : (ps : List Piece) (ms : List Mark) (n k : ℕ) (m : Mark) → AreRanges ps ms n →
    k < length ms → m ≡ get_or ms k m → m.start + m.count ≤ length ps
layer-within ps ms n k m h lt e = rw e (laid-at 0 (length ps) k ms m lt h.laid)

-- where nothing is undone there is a mark for each layer
pub marks-room : (ps : List Piece) (ms : List Mark) (n : ℕ) → n ≤ length ms →
    map (layer_of ps) (drop n ms) ≡ [] →
    length (reverse (map (layer_of ps) (take n ms))) < max_layers →
    length ms < max_layers
marks-room ps ms n le e lt =
    let a = length-layers ps ms n le in
    let b = drop-none n ms (map-none ps (drop n ms) e) in
    omega (arith, a, b, lt)

-- the front is a right hint
pub hint-front-at : (ps : List Piece) (i begin : ℕ) → i ≡ 0 → begin ≡ 0 → IsHint ps i begin
hint-front-at ps i begin e f = rw (e, f) (hint-front ps)

-- each layer's list is that of its pieces, which are at most its seams
pieced-on : (ps : List Piece) (m : Mark) → Solid ps → m.count ≤ m.seams → IsPieced (layer_of ps m)
pieced-on ps m s le = record {
  pieces = range ps m;
  solid = solid-range m.start m.count ps s;
  same = sym (contents-old (addresses (range ps m)));
  few = let t = length-take-most m.count (drop m.start ps) in omega (arith, t, le);
}

abbrev AreFew : List Mark → Type 0
AreFew ms = AllByRecursion (λ m. m.count ≤ m.seams) ms

laid-all-few : (from to : ℕ) (ms : List Mark) → Laid from to ms → AreFew ms
laid-all-few from to [] l = tt
laid-all-few from to (m ∷ ms) l = (l.1.0, laid-all-few (from + m.count) to ms l.1.1)

pieced-all : (ps : List Piece) (ms : List Mark) → Solid ps → AreFew ms →
    AllByRecursion IsPieced (map (layer_of ps) ms)
pieced-all ps [] s f = tt
pieced-all ps (m ∷ ms) s f = (pieced-on ps m s f.0, pieced-all ps ms s f.1)

all-drop : {A : Type 0} (P : A → Type 0) (n : ℕ) (xs : List A) → AllByRecursion P xs →
    AllByRecursion P (drop n xs)
all-drop P zero xs a = a
all-drop P (suc n) [] a = tt
all-drop P (suc n) (x ∷ xs) a = all-drop P n xs a.1

all-reverse : {A : Type 0} (P : A → Type 0) (xs : List A) → AllByRecursion P xs →
    AllByRecursion P (reverse xs)
all-reverse P [] a = tt
all-reverse P (x ∷ xs) a =
    let e : reverse (x ∷ xs) ≡ reverse xs ++ x ∷ [] = reverse-append (x ∷ []) xs in
    rw e (all-append P (reverse xs) (x ∷ []) (all-reverse P xs a.1) (a.0, tt))

-- each layer is made of its pieces
pub pieced-layers : (ps : List Piece) (ms : List Mark) (n : ℕ) → AreRanges ps ms n →
    AllByRecursion IsPieced (reverse (map (layer_of ps) (take n ms)))
pieced-layers ps ms n h =
    all-reverse IsPieced (map (layer_of ps) (take n ms))
    (pieced-all ps (take n ms) h.solid
    (all-take (λ m. m.count ≤ m.seams) n ms (laid-all-few 0 (length ps) ms h.laid)))

-- and so is each redo layer
pub pieced-redo : (ps : List Piece) (ms : List Mark) (n : ℕ) → AreRanges ps ms n →
    AllByRecursion IsPieced (map (layer_of ps) (drop n ms))
pieced-redo ps ms n h = pieced-all ps (drop n ms) h.solid
    (all-drop (λ m. m.count ≤ m.seams) n ms (laid-all-few 0 (length ps) ms h.laid))

pub ruleset moves = (undone-at, redone-at, hint-front)

pub ruleset totals = (total-stack, count-pieces, pieced-layers, pieced-redo)

pub ruleset cuts = (dropped-all, holds-cut-at, hint-front-at)

pub ruleset adds = (room-added, added-at, holds-added, hint-front, short-total)

pub ruleset currents = (
  laid-at,
  laid-few,
  solid-range,
  current-range,
  current-few,
  layer-value,
  current-value,
  current-length,
  current-short,
  layer-within,
  total-current,
  place-current,
)
