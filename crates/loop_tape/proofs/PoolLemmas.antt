-- Frames that are padded with silence, and free chunks.
use Rattle.std.proofs.Common.{◌≡◌, ◌≢◌, ◌≤◌, ◌<◌, ℕ, zero, suc, ◌+◌, ◌-◌, ◌*◌, ◌/◌, ◌%◌, List, [], ◌∷◌, ◌++◌, length, refl, sym, ap, arith, get_or, set, length-append, append_assoc, replicate, take, drop}
use Rattle.std.proofs.lemmas.List.{get_or_append_left, get_or-replicate, get_or_past, length-replicate, set-append_left, append-nil, length-set, replicate-append-replicate}
use Rattle.std.proofs.lemmas.List.{length-drop, length-take-le, get_or-append_right as get_or_at_right}
use Rattle.std.proofs.Math.Seq.{get_or-append_right}
use Rattle.sl_base.specs.Sounds.{Sound, silence}
use Rattle.loop_tape.proofs.ChunkLemmas.{length-last, before_last, at_last, distinct_more, distinct_fewer, last_outside}
use Rattle.loop_tape.specs.Pools.{PoolOf, IsPool, IsTaken, IsOutside, HoldsPool, padded, with_frames, downward, free_of}

-- padded frames

-- silence everywhere, also past the end
get_or-silent : (n i : ℕ) → get_or (replicate n silence) i silence ≡ silence
get_or-silent n i =
    grind (
      arith,
      get_or-replicate n i silence silence,
      get_or_past (replicate n silence) i silence,
      length-replicate n silence,
    )

-- what lies past the end reads as silence, padded or not
pub get_or-padded : (n : ℕ) (xs : List Sound) (i : ℕ) →
    get_or (padded n xs) i silence ≡ get_or xs i silence
get_or-padded n xs i =
    grind (
      arith,
      get_or_append_left xs (replicate (n - length xs) silence) silence i,
      get_or-append_right xs (replicate (n - length xs) silence) i silence,
      get_or-silent (n - length xs) (i - length xs),
      get_or_past xs i silence,
    )

-- a frame set before the padding
pub set-padded : (n : ℕ) (xs : List Sound) (i : ℕ) (x : Sound) → i < length xs →
    set (padded n xs) i x ≡ padded n (set xs i x)
set-padded n xs i x lt =
    rw (length-set xs i x) (set-append_left xs (replicate (n - length xs) silence) i x lt)

-- a padded store is as long as asked
pub length-padded : (n : ℕ) (xs : List Sound) → length xs ≤ n → length (padded n xs) ≡ n
length-padded n xs le = let e = length-append xs (replicate (n - length xs) silence) in
    let f = length-replicate (n - length xs) silence in omega (arith, e, f, le)

-- frames put before the padding
pub length-with_frames : (slot : ℕ) (ys xs : List Sound) → slot + length ys ≤ length xs →
    length (with_frames slot ys xs) ≡ length xs
length-with_frames slot ys xs le =
    let a = length-append (take slot xs) (ys ++ drop (slot + length ys) xs) in
    let b = length-append ys (drop (slot + length ys) xs) in
    let c = length-drop (slot + length ys) xs in
    let d = length-take-le slot xs (omega (arith, le)) in
    omega (arith, a, b, c, d, le)

take-before : (k : ℕ) (xs ys : List Sound) → k ≤ length xs → take k (xs ++ ys) ≡ take k xs
take-before zero xs ys le = refl
take-before (suc k) [] ys le = absurd (omega (arith, le))
take-before (suc k) (x ∷ xs) ys le = ap (λ t. x ∷ t) (take-before k xs ys (omega (arith, le)))

drop-before : (k : ℕ) (xs ys : List Sound) → k ≤ length xs → drop k (xs ++ ys) ≡ drop k xs ++ ys
drop-before zero xs ys le = refl
drop-before (suc k) [] ys le = absurd (omega (arith, le))
drop-before (suc k) (x ∷ xs) ys le = drop-before k xs ys (omega (arith, le))

-- frames set in a padded store
pub with_frames-padded : (n slot : ℕ) (ys xs : List Sound) → slot + length ys ≤ length xs →
    with_frames slot ys (padded n xs) ≡ padded n (with_frames slot ys xs)
with_frames-padded n slot ys xs le =
    let pad = replicate (n - length xs) silence in
    let l = length-with_frames slot ys xs le in
    let a = append_assoc (take slot xs) (ys ++ drop (slot + length ys) xs) pad in
    let b = append_assoc ys (drop (slot + length ys) xs) pad in
    rw (
      l,
      take-before slot xs pad (omega (arith, le)),
      drop-before (slot + length ys) xs pad le,
      a,
      b,
    ) refl

-- the frames that were put, and the others
pub with_frames-there : (slot k : ℕ) (ys xs : List Sound) → slot + length ys ≤ length xs →
    k < length ys → get_or (with_frames slot ys xs) (slot + k) silence ≡ get_or ys k silence
with_frames-there slot k ys xs le lt =
    let t = length-take-le slot xs (omega (arith, le)) in
    let a = get_or_at_right (take slot xs) (ys ++ drop (slot + length ys) xs) slot (slot + k)
    silence t (omega arith) in
    let z : slot + k - slot ≡ k = omega arith in
    rw (a, z) (get_or_append_left ys (drop (slot + length ys) xs) silence k lt)

-- frames set leave those before them
pub with_frames-before : (slot i : ℕ) (ys xs : List Sound) → i < slot → slot ≤ length xs →
    get_or (with_frames slot ys xs) i silence ≡ get_or xs i silence
with_frames-before slot i ys xs lt le =
    let t = length-take-le slot xs le in
    let a = get_or_append_left (take slot xs) (ys ++ drop (slot + length ys) xs) silence i
    (omega (arith, t, lt)) in
    rw a (get_or-take slot i xs lt)
  where
    get_or-take : (n i : ℕ) (xs : List Sound) → i < n →
        get_or (take n xs) i silence ≡ get_or xs i silence
    get_or-take zero i xs lt = absurd (omega (arith, lt))
    get_or-take (suc n) i [] lt = refl
    get_or-take (suc n) zero (x ∷ xs) lt = refl
    get_or-take (suc n) (suc i) (x ∷ xs) lt = get_or-take n i xs (omega (arith, lt))

dropped-at : (n i : ℕ) (xs : List Sound) → n ≤ i →
    get_or (drop n xs) (i - n) silence ≡ get_or xs i silence
dropped-at zero i xs le = let z : i - 0 ≡ i = omega arith in rw z refl
dropped-at (suc n) i [] le = refl
dropped-at (suc n) zero (x ∷ xs) le = absurd (omega (arith, le))
dropped-at (suc n) (suc i) (x ∷ xs) le = let z : suc i - suc n ≡ i - n = omega arith in
    rw z (dropped-at n i xs (omega (arith, le)))

-- and those behind them
pub with_frames-behind : (slot i : ℕ) (ys xs : List Sound) → slot + length ys ≤ i →
    slot ≤ length xs → get_or (with_frames slot ys xs) i silence ≡ get_or xs i silence
with_frames-behind slot i ys xs lt le =
    let t = length-take-le slot xs le in
    let a = get_or_at_right (take slot xs) (ys ++ drop (slot + length ys) xs) slot i silence t
    (omega (arith, lt)) in
    let b = get_or_at_right ys (drop (slot + length ys) xs) (length ys) (i - slot) silence refl
    (omega (arith, lt)) in
    let z : i - slot - length ys ≡ i - (slot + length ys) = omega arith in
    rw (a, b, z) (dropped-at (slot + length ys) i xs lt)

-- padding twice
pub padded-padded : (n m : ℕ) (xs : List Sound) → m ≤ n → padded n (padded m xs) ≡ padded n xs
padded-padded n m xs le =
    let e = append_assoc xs (replicate (m - length xs) silence)
    (replicate (n - length (padded m xs)) silence) in
    let f = replicate-append-replicate (m - length xs) (n - length (padded m xs)) silence in
    let g = length-append xs (replicate (m - length xs) silence) in
    let k = length-replicate (m - length xs) silence in
    let h : (m - length xs) + (n - length (padded m xs)) ≡ n - length xs =
    omega (arith, g, k, le) in
    rw (e, f, h) refl

-- one frame of silence more
pub padded-pushed : (n : ℕ) (xs : List Sound) → length xs < n →
    padded n (xs ++ silence ∷ []) ≡ padded n xs
padded-pushed n xs lt =
    let e = append_assoc xs (silence ∷ []) (replicate (n - length (xs ++ silence ∷ [])) silence) in
    let g = length-append xs (silence ∷ []) in
    let h : suc (n - length (xs ++ silence ∷ [])) ≡ n - length xs = omega (arith, g, lt) in
    rw (e, ← h) refl

-- free chunks

-- so many numbers downward
pub length-downward : (b n : ℕ) → length (downward b n) ≡ n
length-downward b zero = refl
length-downward b (suc n) = let h = length-downward b n in omega (arith, h)

-- each of them by its index
pub get_or-downward : (b n i : ℕ) → i < n → get_or (downward b n) i 0 + i + 1 ≡ b + n
get_or-downward b zero i lt = absurd (omega (arith, lt))
get_or-downward b (suc n) zero lt = omega arith
get_or-downward b (suc n) (suc i) lt = let h = get_or-downward b n i (omega (arith, lt)) in
    omega (arith, h)

-- the first of the chunks stands at the end
pub downward_first : (b n : ℕ) → downward b (suc n) ≡ downward (suc b) n ++ b ∷ []
downward_first b zero = grind arith
downward_first b (suc n) = let h = downward_first b n in let e : b + suc n ≡ suc b + n =
    omega arith in rw (h, e) refl

-- how many chunks are free
pub length-free : (b a : ℕ) (given : List ℕ) → length (free_of b a given) ≡ (a - b) + length given
length-free b a given = let e = length-append (downward b (a - b)) given in
    let f = length-downward b (a - b) in omega (arith, e, f)

-- a chunk that was never taken
free_first : (b a : ℕ) (given : List ℕ) (j : ℕ) → b ≤ a → j < a - b →
    get_or (free_of b a given) j 0 + j + 1 ≡ a
free_first b a given j le lt = let e =
    get_or_append_left (downward b (a - b)) given 0 j (let f = length-downward b (a - b) in
    omega (arith, f, lt)) in let h = get_or-downward b (a - b) j lt in omega (arith, e, h, le)

-- a chunk that was given back
free_given : (b a : ℕ) (given : List ℕ) (j : ℕ) → a - b ≤ j →
    get_or (free_of b a given) j 0 ≡ get_or given (j - (a - b)) 0
free_given b a given j le = let f = length-downward b (a - b) in
    let e = get_or-append_right (downward b (a - b)) given j 0 (omega (arith, f, le)) in rw f at e

-- a chunk that is taken was filled
pub taken_begun : (b a : ℕ) (given : List ℕ) (c : ℕ) → b ≤ a → c < a →
    IsOutside c (free_of b a given) → c < b
taken_begun b a given c le lt out =
    grind (arith, out (a - 1 - c), free_first b a given (a - 1 - c), length-free b a given)

-- a list that is long enough stays
pub padded-long : (n : ℕ) (xs : List Sound) → n ≤ length xs → padded n xs ≡ xs
padded-long n xs le = let e : n - length xs ≡ 0 = omega (arith, le) in rw e (append-nil xs)

-- what lies in a chunk that is taken was filled
pub slot_filled : (p : PoolOf) (store : List Sound) (given : List ℕ) (b slot : ℕ) →
    IsTaken p (slot / 4096) → HoldsPool store given b p.all → p.free ≡ free_of b p.all given →
    slot < length store
slot_filled p store given b slot t h e = let g = taken_begun b p.all given (slot / 4096) h.within
    t.inside (rw e at t.taken) in let f = h.filled in omega (arith, g, f)

-- a part of a chunk that is taken was filled
pub part_filled : (p : PoolOf) (store : List Sound) (given : List ℕ) (b slot count : ℕ) →
    IsTaken p (slot / 4096) → HoldsPool store given b p.all → p.free ≡ free_of b p.all given →
    slot % 4096 + count ≤ 4096 → slot + count ≤ length store
part_filled p store given b slot count t h e le = let g = taken_begun b p.all given (slot / 4096)
    h.within t.inside (rw e at t.taken) in let f = h.filled in omega (arith, g, f, le)

-- what always holds of a pool, of its parts
pub held_pool : (store : List Sound) (given : List ℕ) (b a : ℕ) → HoldsPool store given b a →
    IsPool (record { store = padded (a * 4096) store; free = free_of b a given; all = a })
held_pool store given b a h = record {
  store = length-padded (a * 4096) store h.short;
  inside = λ i lt. grind (
    arith,
    free_first b a given i,
    free_given b a given i,
    h.below (i - (a - b)),
    length-free b a given,
    h.within,
  );
  once = h.once;
}

-- a new pool
pub held_new : (a : ℕ) → a ≤ 32768 → HoldsPool [] [] 0 a
held_new a le = record {
  once = λ i j li lj e. grind (arith, free_first 0 a [] i, free_first 0 a [] j, length-free 0 a []);
  below = λ j lt. absurd (omega (arith, lt));
  fewer = omega arith;
  within = omega arith;
  most = le;
  filled = omega arith;
  short = omega arith;
}

-- the free chunks with one given back
free_more : (b a : ℕ) (given : List ℕ) (k : ℕ) →
    free_of b a (given ++ k ∷ []) ≡ free_of b a given ++ k ∷ []
free_more b a given k = sym (append_assoc (downward b (a - b)) given (k ∷ []))

-- the free chunks with one begun
pub free_begun : (b a : ℕ) → b < a → free_of b a [] ≡ free_of (suc b) a [] ++ b ∷ []
free_begun b a lt =
    let e : a - b ≡ suc (a - suc b) = omega (arith, lt) in
    let f = downward_first b (a - suc b) in
    rw (append-nil (downward b (a - b)), append-nil (downward (suc b) (a - suc b)), e) f

-- a chunk given back
pub held_given : (store : List Sound) (given : List ℕ) (b a k : ℕ) → HoldsPool store given b a →
    k < a → IsOutside k (free_of b a given) → length (free_of b a given) < a →
    HoldsPool store (given ++ k ∷ []) b a
held_given store given b a k h lt out room = record {
  once = rw (free_more b a given k) (distinct_more (free_of b a given) k h.once out);
  below = λ j lj. grind (
    arith,
    h.below j,
    length-last given k,
    before_last given k j,
    at_last given k j,
    taken_begun b a given k h.within lt out,
  );
  fewer = let e = length-last given k in let f = length-free b a given in let g = h.within in
      omega (arith, e, f, g, room);
  within = h.within;
  most = h.most;
  filled = h.filled;
  short = h.short;
}

-- a chunk that was given back, taken
pub held_taken : (store : List Sound) (given : List ℕ) (b a k : ℕ) →
    HoldsPool store (given ++ k ∷ []) b a → HoldsPool store given b a
held_taken store given b a k h = record {
  once = distinct_fewer (free_of b a given) k (rw (free_more b a given k) at h.once);
  below = λ j lj. let e = h.below j (let g = length-last given k in omega (arith, g, lj)) in
      let f = before_last given k j lj in omega (arith, e, f);
  fewer = let e = length-last given k in let f = h.fewer in omega (arith, e, f);
  within = h.within;
  most = h.most;
  filled = h.filled;
  short = h.short;
}

-- a chunk that was given back is taken again
pub chunk_taken : (store : List Sound) (given : List ℕ) (b a k : ℕ) →
    HoldsPool store (given ++ k ∷ []) b a → (k < a) × IsOutside k (free_of b a given)
chunk_taken store given b a k h = (
  let e = h.below (length given) (let g = length-last given k in omega (arith, g)) in
      let f = at_last given k (length given) refl in let w = h.within in omega (arith, e, f, w),
  last_outside (free_of b a given) k (rw (free_more b a given k) at h.once),
)

-- a list of which nothing is left
pub is_nil : (xs : List ℕ) → length xs ≡ 0 → xs ≡ []
is_nil [] e = refl
is_nil (x ∷ xs) e = absurd (omega (arith, e))

-- a chunk begun
pub held_begun : (store : List Sound) (given given' : List ℕ) (b a : ℕ) →
    HoldsPool store given b a → b ≢ a → given ≡ [] → given' ≡ [] →
    HoldsPool (padded ((b + 1) * 4096) store) given' (b + 1) a
held_begun store given given' b a h ne e e' =
    let w = h.within in
    let lt : b < a = omega (arith, w, ne) in
    let n : b + 1 ≡ suc b = omega arith in
    let f = h.filled in
    let s = h.short in
    let l = length-append store (replicate ((b + 1) * 4096 - length store) silence) in
    let r = length-replicate ((b + 1) * 4096 - length store) silence in
    let low : (b + 1) * 4096 ≤ length (padded ((b + 1) * 4096) store) = omega (arith, l, r) in
    let high : length (padded ((b + 1) * 4096) store) ≤ a * 4096 = omega (arith, l, r, s, lt) in
    record {
      once = rw (e', n) (distinct_fewer (free_of (suc b) a []) b
          (rw (e, free_begun b a lt) at h.once));
      below = λ j lj. absurd (let z : length given' ≡ 0 = ap length e' in omega (arith, z, lj));
      fewer = let z : length given' ≡ 0 = ap length e' in omega (arith, z);
      within = omega (arith, lt);
      most = h.most;
      filled = low;
      short = high;
    }

-- the frames of a pool with a chunk begun
pub padded-begun : (store : List Sound) (b a : ℕ) → b ≤ a → b ≢ a →
    padded (a * 4096) (padded ((b + 1) * 4096) store) ≡ padded (a * 4096) store
padded-begun store b a le ne =
    padded-padded (a * 4096) ((b + 1) * 4096) store (omega (arith, le, ne))

-- the free chunks of a pool with a chunk begun
pub free_begins : (given given' : List ℕ) (b a : ℕ) → b ≤ a → b ≢ a → given ≡ [] → given' ≡ [] →
    free_of b a given ≡ free_of (b + 1) a given' ++ b ∷ []
free_begins given given' b a le ne e e' = let n : b + 1 ≡ suc b = omega arith in
    rw (e, e', n) (free_begun b a (omega (arith, le, ne)))

-- a chunk that is taken for the first time
pub chunk_begun : (store : List Sound) (given given' : List ℕ) (b a : ℕ) →
    HoldsPool store given b a → b ≢ a → given ≡ [] → given' ≡ [] → (b < a)
    × IsOutside b (free_of (b + 1) a given')
chunk_begun store given given' b a h ne e e' =
    let w = h.within in
    let lt : b < a = omega (arith, w, ne) in
    let n : b + 1 ≡ suc b = omega arith in
    (lt, rw (e', n) (last_outside (free_of (suc b) a []) b (rw (e, free_begun b a lt) at h.once)))

pub ruleset pads = (padded-pushed, padded-long)

pub ruleset news = (length-free, held_new)

pub ruleset counts = (length-free)

pub ruleset checks = (held_pool)

pub ruleset reads = (slot_filled, part_filled, get_or-padded)

pub ruleset writes = (slot_filled, set-padded)

pub ruleset overwrites = (slot_filled, part_filled, with_frames-padded, length-with_frames)
