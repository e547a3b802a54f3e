-- Frames put in a row, in one chunk of a tape.
use Rattle.std.proofs.Common.{◌≡◌, ◌≢◌, ◌≤◌, ◌<◌, ℕ, ◌+◌, ◌*◌, ◌/◌, ◌%◌, ◌==◌, nat_lt, Bool, true, false, List, length, refl, arith, get_or}
use Rattle.sl_base.specs.Sounds.{Sound, silence}
use Rattle.loop_tape.specs.Pools.{PoolOf, AreDistinct, IsPool, with_frames}
use Rattle.loop_tape.specs.Tapes.{TapeOf, slot, Owns, Apart, IsWhole, Stays, PushedAll, AreSet}
use Rattle.loop_tape.proofs.PoolLemmas.{with_frames-there, with_frames-before, with_frames-behind}
use Rattle.loop_tape.proofs.SpanLemmas.{slot_behind}

-- what lies before or behind the frames that were put
kept_as : (b : Bool) (s i : ℕ) (ys xs : List Sound) → nat_lt i s ≡ b → s + length ys ≤ length xs →
    (s ≤ i → s + length ys ≤ i) → get_or (with_frames s ys xs) i silence ≡ get_or xs i silence
kept_as true s i ys xs e le out =
    with_frames-before s i ys xs (grind (arith, e)) (omega (arith, le))
kept_as false s i ys xs e le out =
    with_frames-behind s i ys xs (out (grind (arith, e))) (omega (arith, le))

kept : (s i : ℕ) (ys xs : List Sound) → s + length ys ≤ length xs → (s ≤ i → s + length ys ≤ i) →
    get_or (with_frames s ys xs) i silence ≡ get_or xs i silence
kept s i ys xs le out = kept_as (nat_lt i s) s i ys xs refl le out

-- a part of a chunk and a place outside of it
outside_as : (b : Bool) (c d off e n : ℕ) → (c == d) ≡ b → off + n ≤ 4096 → e < 4096 →
    (c ≡ d → off ≤ e → off + n ≤ e) → c * 4096 + off ≤ d * 4096 + e →
    c * 4096 + off + n ≤ d * 4096 + e
outside_as true c d off e n is le lt out at = let z : c ≡ d = grind (arith, is) in
    let h = out z (omega (arith, z, at)) in omega (arith, z, h)
outside_as false c d off e n is le lt out at = let ne : c ≢ d = grind (arith, is) in
    omega (arith, ne, le, lt, at)

outside : (c d off e n : ℕ) → off + n ≤ 4096 → e < 4096 → (c ≡ d → off ≤ e → off + n ≤ e) →
    c * 4096 + off ≤ d * 4096 + e → c * 4096 + off + n ≤ d * 4096 + e
outside c d off e n le lt out at = outside_as (c == d) c d off e n refl le lt out at

-- another address of the tape
own_outside : (chunks : List ℕ) (a b n : ℕ) → AreDistinct chunks → a / 4096 < length chunks →
    b / 4096 < length chunks → a % 4096 + n ≤ 4096 → (a ≤ b → a + n ≤ b) →
    slot chunks a ≤ slot chunks b → slot chunks a + n ≤ slot chunks b
own_outside chunks a b n once la lb le out at =
    outside (get_or chunks (a / 4096) 0) (get_or chunks (b / 4096) 0) (a % 4096) (b % 4096) n le
    (omega arith)
    (λ same less. let z : a / 4096 ≡ b / 4096 = once (a / 4096) (b / 4096) la lb same in
    let h = out (omega (arith, z, less)) in omega (arith, z, h)) at

-- an address of another tape
other_outside : (chunks us : List ℕ) (a b n : ℕ) → get_or us (b / 4096) 0 ≢ get_or chunks (a / 4096)
    0 → a % 4096 + n ≤ 4096 → slot chunks a ≤ slot us b → slot chunks a + n ≤ slot us b
other_outside chunks us a b n ne le at =
    outside (get_or chunks (a / 4096) 0) (get_or us (b / 4096) 0) (a % 4096) (b % 4096) n le
    (omega arith)
    (λ same less. absurd (omega (arith, ne, same))) at

-- the chunk in which the frames lie is the pool's
chunk_within : (t : TapeOf) (p : PoolOf) (a n : ℕ) → Owns t p → a / 4096 < length t.chunks →
    a % 4096 + n ≤ 4096 → length p.store ≡ p.all * 4096 → slot t.chunks a + n ≤ length p.store
chunk_within t p a n o la le long = let i = o.inside (a / 4096) la in omega (arith, i, le, long)

-- the frames that were put
put_there : (t : TapeOf) (p : PoolOf) (xs : List Sound) (a k : ℕ) → a % 4096 + length xs ≤ 4096 →
    k < length xs → slot t.chunks a + length xs ≤ length p.store →
    get_or (with_frames (slot t.chunks a) xs p.store) (slot t.chunks (a + k)) silence ≡ get_or xs k
    silence
put_there t p xs a k le lt within =
    let s : slot t.chunks (a + k) ≡ slot t.chunks a + k =
    slot_behind t.chunks a k (omega (arith, le, lt)) in
    rw s (with_frames-there (slot t.chunks a) k xs p.store within lt)

put_stays : (t t' : TapeOf) (p : PoolOf) (xs : List Sound) (a : ℕ) (u : TapeOf) →
    t'.chunks ≡ t.chunks → IsWhole u → Owns u p → Apart u t → a / 4096 < length t.chunks →
    a % 4096 + length xs ≤ 4096 → slot t.chunks a + length xs ≤ length p.store →
    Stays u t' p (record {
      store = with_frames (slot t.chunks a) xs p.store;
      free = p.free;
      all =
          p.all;
    })
put_stays t t' p xs a u same size ou apart la le within = record {
  owned = record { inside = ou.inside; once = ou.once; taken = ou.taken; fits = ou.fits };
  apart = rw same apart;
  frames = λ b lb.
      let in_chunk : b / 4096 < length u.chunks = omega (arith, size, lb) in
      kept (slot t.chunks a) (slot u.chunks b) xs p.store within
      (other_outside t.chunks u.chunks a b (length xs) (apart (b / 4096) (a / 4096) in_chunk la)
      le);
}

-- frames more in the last chunk
pub pushed_span : (t t' : TapeOf) (p p' : PoolOf) (xs : List Sound) (s : ℕ) → Owns t p → IsWhole t →
    t.len % 4096 ≢ 0 → t.len % 4096 + length xs ≤ 4096 → IsPool p → s ≡ slot t.chunks t.len →
    t' ≡ record { chunks = t.chunks; len = t.len + length xs; room = t.room } →
    p' ≡ record { store = with_frames s xs p.store; free = p.free; all = p.all } →
    PushedAll t t' p p' xs
pushed_span t t' p p' xs s o whole part le ip es et ep =
    let la : t.len / 4096 < length t.chunks = omega (arith, whole, part) in
    let within = chunk_within t p t.len (length xs) o la le ip.store in
    rw (et, ep, es) (record {
      len = refl;
      room = refl;
      new = λ k lt. put_there t p xs t.len k le lt within;
      kept = λ a lt. kept (slot t.chunks t.len) (slot t.chunks a) xs p.store within
          (own_outside t.chunks t.len a (length xs) o.once la (omega (arith, whole, lt)) le
          (λ over. absurd (omega (arith, over, lt))));
      owned = record { inside = o.inside; once = o.once; taken = o.taken; fits = o.fits };
      others = λ u size ou apart.
          put_stays t (record { chunks = t.chunks; len = t.len + length xs; room = t.room }) p xs
          t.len u refl size ou apart la le within;
      chunks = refl;
      all = refl;
    })

-- frames set from an address on
pub are_set : (t : TapeOf) (p p' : PoolOf) (xs : List Sound) (a s : ℕ) → Owns t p → IsWhole t →
    1 ≤ length xs → a + length xs ≤ t.len → a % 4096 + length xs ≤ 4096 → IsPool p →
    s ≡ slot t.chunks a →
    p' ≡ record { store = with_frames s xs p.store; free = p.free; all = p.all } →
    AreSet t t p p' a xs
are_set t p p' xs a s o whole some below le ip es ep =
    let la : a / 4096 < length t.chunks = omega (arith, whole, below, some) in
    let within = chunk_within t p a (length xs) o la le ip.store in
    rw (ep, es) (record {
      tape = refl;
      there = λ k lt. put_there t p xs a k le lt within;
      before = λ b lt. kept (slot t.chunks a) (slot t.chunks b) xs p.store within
          (own_outside t.chunks a b (length xs) o.once la (omega (arith, whole, lt, below, some)) le
          (λ over. absurd (omega (arith, over, lt))));
      behind = λ b over lt. kept (slot t.chunks a) (slot t.chunks b) xs p.store within
          (own_outside t.chunks a b (length xs) o.once la (omega (arith, whole, lt)) le
          (λ past. over));
      owned = record { inside = o.inside; once = o.once; taken = o.taken; fits = o.fits };
      others = λ u size ou apart. put_stays t t p xs a u refl size ou apart la le within;
      free = refl;
      all = refl;
    })

pub ruleset puts = (pushed_span, are_set)
