-- Where addresses lie, and what a frame set or put behind the others changes.
use Rattle.std.proofs.Common.{◌≡◌, ◌≢◌, ◌≤◌, ◌<◌, ℕ, ◌+◌, ◌*◌, ◌/◌, ◌%◌, List, [], ◌∷◌, ◌++◌, length, refl, sym, ap, arith, get_or, set}
use Rattle.std.proofs.lemmas.List.{get_or-set_same, get_or-set_other}
use Rattle.sl_base.specs.Sounds.{Sound, silence}
use Rattle.loop_tape.specs.Pools.{PoolOf, AreDistinct, IsPool, IsTaken}
use Rattle.loop_tape.specs.Tapes.{TapeOf, slot, Owns, Apart, IsWhole, Stays, Pushed, IsSet}
use Rattle.loop_tape.proofs.ChunkLemmas.{length-last, before_last, at_last, distinct_more, length-both}

-- different addresses of a tape lie in different places
pub slots_apart : (chunks : List ℕ) (a b : ℕ) → AreDistinct chunks → a / 4096 < length chunks →
    b / 4096 < length chunks → a ≢ b → slot chunks a ≢ slot chunks b
slots_apart chunks a b once la lb ne e =
    let c : get_or chunks (a / 4096) 0 ≡ get_or chunks (b / 4096) 0 = omega (arith, e) in
    let d : a / 4096 ≡ b / 4096 = once (a / 4096) (b / 4096) la lb c in
    let m : a % 4096 ≡ b % 4096 = omega (arith, e, c) in
    ne (omega (arith, d, m))

-- a chunk of a tape isn't free
pub owned_taken : (t : TapeOf) (p : PoolOf) (i : ℕ) → Owns t p → i < length t.chunks →
    IsTaken p (get_or t.chunks i 0)
owned_taken t p i o lt =
    record { inside = o.inside i lt; taken = λ j lj e. o.taken i j lt lj (sym e) }

-- the chunk in which an address lies isn't free
pub slot_taken : (t : TapeOf) (p : PoolOf) (s a : ℕ) → Owns t p → IsWhole t → a < t.len →
    s ≡ slot t.chunks a → IsTaken p (s / 4096)
slot_taken t p s a o whole lt e =
    let z : s / 4096 ≡ get_or t.chunks (a / 4096) 0 = omega (arith, e) in
    rw z (owned_taken t p (a / 4096) o (omega (arith, whole, lt)))

-- the next chunk in which an address will lie isn't free
pub end_taken : (t : TapeOf) (p : PoolOf) (s : ℕ) → Owns t p → IsWhole t → t.len % 4096 ≢ 0 →
    s ≡ slot t.chunks t.len → IsTaken p (s / 4096)
end_taken t p s o whole part e =
    let z : s / 4096 ≡ get_or t.chunks (t.len / 4096) 0 = omega (arith, e) in
    rw z (owned_taken t p (t.len / 4096) o (omega (arith, whole, part)))

-- a frame set at an address
pub is_set : (t : TapeOf) (p p' : PoolOf) (x : Sound) (a s : ℕ) → Owns t p → IsWhole t → a < t.len →
    IsPool p → s ≡ slot t.chunks a →
    p' ≡ record { store = set p.store s x; free = p.free; all = p.all } → IsSet t t p p' a x
is_set t p p' x a s o whole lt ip es e =
    let chunk : a / 4096 < length t.chunks = omega (arith, whole, lt) in
    let inside = o.inside (a / 4096) chunk in
    let long = ip.store in
    rw (e, es) (record {
      tape = refl;
      there = get_or-set_same p.store (slot t.chunks a) x silence (omega (arith, inside, long));
      kept = λ b lb ne. get_or-set_other p.store (slot t.chunks a) (slot t.chunks b) x silence
          (slots_apart t.chunks b a o.once (omega (arith, whole, lb)) chunk ne);
      owned = record { inside = o.inside; once = o.once; taken = o.taken; fits = o.fits };
      others = λ u size_u ou apart. record {
        owned = record { inside = ou.inside; once = ou.once; taken = ou.taken; fits = ou.fits };
        apart = apart;
        frames = λ b lb.
            let in_chunk : b / 4096 < length u.chunks = omega (arith, size_u, lb) in
            get_or-set_other p.store (slot t.chunks a) (slot u.chunks b) x silence
            (λ eq. apart (b / 4096) (a / 4096) in_chunk chunk (omega (arith, eq)));
      };
      free = refl;
      all = refl;
    })

-- a write in a tape's chunk
pub others_stay_set : (t : TapeOf) (p : PoolOf) (x : Sound) (a : ℕ) (u : TapeOf) →
    length u.chunks ≡ (u.len + 4095) / 4096 → Owns u p → Apart u t → a / 4096 < length t.chunks →
    Stays u (record { chunks = t.chunks; len = t.len + 1; room = t.room }) p
    (record { store = set p.store (slot t.chunks a) x; free = p.free; all = p.all })
others_stay_set t p x a u size ou apart la = record {
  owned = record { inside = ou.inside; once = ou.once; taken = ou.taken; fits = ou.fits };
  apart = apart;
  frames = λ b lb.
      let in_chunk : b / 4096 < length u.chunks = omega (arith, size, lb) in
      get_or-set_other p.store (slot t.chunks a) (slot u.chunks b) x silence
      (λ e. apart (b / 4096) (a / 4096) in_chunk la (omega (arith, e)));
}

-- a frame more in the last chunk
pub pushed_within : (t : TapeOf) (p : PoolOf) (x : Sound) → Owns t p →
    length t.chunks ≡ (t.len + 4095) / 4096 → t.len % 4096 ≢ 0 → length p.store ≡ p.all * 4096 →
    Pushed t (record { chunks = t.chunks; len = t.len + 1; room = t.room }) p
    (record { store = set p.store (slot t.chunks t.len) x; free = p.free; all = p.all }) x
pushed_within t p x o len part long =
    let in_chunk : t.len / 4096 < length t.chunks = omega (arith, len, part) in
    let chunk : get_or t.chunks (t.len / 4096) 0 < p.all = o.inside (t.len / 4096) in_chunk in
    record {
      len = refl;
      room = refl;
      last = get_or-set_same p.store (slot t.chunks t.len) x silence (omega (arith, chunk, long));
      kept = λ a lt. get_or-set_other p.store (slot t.chunks t.len) (slot t.chunks a) x silence
          (slots_apart t.chunks a t.len o.once (omega (arith, len, lt)) in_chunk
          (omega (arith, lt)));
      owned = record { inside = o.inside; once = o.once; taken = o.taken; fits = o.fits };
      others = λ u size ou apart. others_stay_set t p x t.len u size ou apart in_chunk;
      chunks = refl;
      all = refl;
    }

inside_more : (xs : List ℕ) (k n : ℕ) → ((i : ℕ) → i < length xs → get_or xs i 0 < n) → k < n →
    (i : ℕ) → i < length (xs ++ k ∷ []) → get_or (xs ++ k ∷ []) i 0 < n
inside_more xs k n inside lt i li =
    grind (arith, inside i, length-last xs k, before_last xs k i, at_last xs k i)

taken_more : (xs rest : List ℕ) (k : ℕ) →
    ((i j : ℕ) → i < length xs → j < length (rest ++ k ∷ []) →
    get_or xs i 0 ≢ get_or (rest ++ k ∷ []) j 0) →
    ((j : ℕ) → j < length rest → get_or rest j 0 ≢ k) → (i j : ℕ) → i < length (xs ++ k ∷ []) →
    j < length rest → get_or (xs ++ k ∷ []) i 0 ≢ get_or rest j 0
taken_more xs rest k taken far i j li lj e =
    grind (
      arith,
      taken i j,
      far j,
      length-last xs k,
      length-last rest k,
      before_last xs k i,
      at_last xs k i,
      before_last rest k j,
    )

outside_more : (xs rest : List ℕ) (k : ℕ) →
    ((i j : ℕ) → i < length xs → j < length (rest ++ k ∷ []) →
    get_or xs i 0 ≢ get_or (rest ++ k ∷ []) j 0) → (i : ℕ) → i < length xs → get_or xs i 0 ≢ k
outside_more xs rest k taken i li e = taken i (length rest) li (let h = length-last rest k in
    omega (arith, h)) (rw (at_last rest k (length rest) refl) e)

taken_fewer : (xs rest : List ℕ) (k : ℕ) →
    ((i j : ℕ) → i < length xs → j < length (rest ++ k ∷ []) →
    get_or xs i 0 ≢ get_or (rest ++ k ∷ []) j 0) → (i j : ℕ) → i < length xs → j < length rest →
    get_or xs i 0 ≢ get_or rest j 0
taken_fewer xs rest k taken i j li lj e =
    taken i j li (let h = length-last rest k in omega (arith, h, lj))
    (rw (before_last rest k j lj) e)

apart_more : (us ts : List ℕ) (k : ℕ) →
    ((i j : ℕ) → i < length us → j < length ts → get_or us i 0 ≢ get_or ts j 0) →
    ((i : ℕ) → i < length us → get_or us i 0 ≢ k) → (i j : ℕ) → i < length us →
    j < length (ts ++ k ∷ []) → get_or us i 0 ≢ get_or (ts ++ k ∷ []) j 0
apart_more us ts k apart far i j li lj e =
    grind (arith, apart i j, far i, length-last ts k, before_last ts k j, at_last ts k j)

-- a tape's chunks and the free ones are no more than all
pub room_left : (t : TapeOf) (p : PoolOf) → Owns t p → IsPool p →
    length t.chunks + length p.free ≤ p.all
room_left t p o ip = length-both t.chunks p.free p.all o.once ip.once o.taken o.inside ip.inside

-- where a chunk is free, the tape has room for it
pub room_taken : (t : TapeOf) (p : PoolOf) (rest : List ℕ) (k : ℕ) → Owns t p → IsPool p →
    p.free ≡ rest ++ k ∷ [] → length t.chunks < t.room
room_taken t p rest k o ip e = let h = room_left t p o ip in let g = o.fits in
    let n : length p.free ≡ length rest + 1 = rw e (length-last rest k) in omega (arith, h, g, n)

-- a frame more in a chunk that was free
pub pushed_chunk : (t : TapeOf) (p : PoolOf) (x : Sound) (k : ℕ) (rest : List ℕ) → Owns t p →
    length t.chunks ≡ (t.len + 4095) / 4096 → t.len % 4096 ≡ 0 → length p.store ≡ p.all * 4096 →
    p.free ≡ rest ++ k ∷ [] → k < p.all → ((j : ℕ) → j < length rest → get_or rest j 0 ≢ k) →
    Pushed t (record { chunks = t.chunks ++ k ∷ []; len = t.len + 1; room = t.room }) p
    (record { store = set p.store (k * 4096) x; free = rest; all = p.all }) x
pushed_chunk t p x k rest o len part long free lt far =
    let n : t.len / 4096 ≡ length t.chunks = omega (arith, len, part) in
    let here : slot (t.chunks ++ k ∷ []) t.len ≡ k * 4096 = let h =
    at_last t.chunks k (t.len / 4096) n in omega (arith, h, part) in
    let taken : (i j : ℕ) → i < length t.chunks → j < length (rest ++ k ∷ []) →
    get_or t.chunks i 0 ≢ get_or (rest ++ k ∷ []) j 0 = rw (sym free) o.taken in
    let apart : (i : ℕ) → i < length t.chunks → get_or t.chunks i 0 ≢ k =
    outside_more t.chunks rest k taken in
    let size : length p.free ≡ length rest + 1 = rw free (length-last rest k) in
    let more : length (t.chunks ++ k ∷ []) ≡ length t.chunks + 1 = length-last t.chunks k in
    record {
      len = refl;
      room = refl;
      last = rw here (get_or-set_same p.store (k * 4096) x silence (omega (arith, lt, long)));
      kept = λ a la.
          let in_chunk : a / 4096 < length t.chunks = omega (arith, len, la) in
          let same : slot (t.chunks ++ k ∷ []) a ≡ slot t.chunks a =
          ap (λ c. c * 4096 + a % 4096) (before_last t.chunks k (a / 4096) in_chunk) in
          rw same (get_or-set_other p.store (k * 4096) (slot t.chunks a) x silence
          (λ e. apart (a / 4096) in_chunk (omega (arith, e))));
      owned = record {
        inside = inside_more t.chunks k p.all o.inside lt;
        once = distinct_more t.chunks k o.once apart;
        taken = taken_more t.chunks rest k taken far;
        fits = o.fits;
      };
      others = λ u size_u ou apart_u.
          let taken_u : (i j : ℕ) → i < length u.chunks → j < length (rest ++ k ∷ []) →
          get_or u.chunks i 0 ≢ get_or (rest ++ k ∷ []) j 0 = rw (sym free) ou.taken in
          let far_u : (i : ℕ) → i < length u.chunks → get_or u.chunks i 0 ≢ k =
          outside_more u.chunks rest k taken_u in
          record {
            owned = record {
              inside = ou.inside;
              once = ou.once;
              taken =
                  taken_fewer u.chunks rest k taken_u;
              fits = ou.fits;
            };
            apart = apart_more u.chunks t.chunks k apart_u far_u;
            frames = λ b lb.
                let in_chunk : b / 4096 < length u.chunks = omega (arith, size_u, lb) in
                get_or-set_other p.store (k * 4096) (slot u.chunks b) x silence
                (λ e. far_u (b / 4096) in_chunk (omega (arith, e)));
          };
      chunks = omega (arith, size, more);
      all = refl;
    }

-- a frame more in a chunk that the pool gave away
pub pushed_new : (t t' : TapeOf) (p q p' : PoolOf) (x : Sound) (k : ℕ) → Owns t p → IsWhole t →
    t.len % 4096 ≡ 0 → IsPool p → q.store ≡ p.store → q.all ≡ p.all → p.free ≡ q.free ++ k ∷ [] →
    IsTaken q k → t' ≡ record { chunks = t.chunks ++ k ∷ []; len = t.len + 1; room = t.room } →
    p' ≡ record { store = set q.store (k * 4096) x; free = q.free; all = q.all } →
    Pushed t t' p p' x
pushed_new t t' p q p' x k o whole part ip es ea free taken et ep =
    let lt : k < p.all = let h = taken.inside in omega (arith, h, ea) in
    rw (et, ep, es, ea) (pushed_chunk t p x k q.free o whole part ip.store free lt taken.taken)

pub ruleset slots = (slot_taken)

pub ruleset sets = (is_set)

pub ruleset pushes = (end_taken, room_taken, pushed_within, pushed_new)

pub ruleset ends = (end_taken)
