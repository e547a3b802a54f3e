-- Chunks that a tape gives back.
use Rattle.std.proofs.Common.{◌≡◌, ◌≢◌, ◌≤◌, ◌<◌, ℕ, ◌+◌, ◌-◌, ◌*◌, ◌/◌, ◌%◌, List, [], ◌∷◌, ◌++◌, length, refl, sym, ap, subst, arith, get_or}
use Rattle.loop_tape.specs.Pools.{PoolOf}
use Rattle.loop_tape.specs.Tapes.{TapeOf, slot, Owns, Cut}
use Rattle.loop_tape.proofs.ChunkLemmas.{length-last, before_last, at_last}
use Rattle.loop_tape.proofs.SlotLemmas.{room_left, owned_taken}

trans : {A : Type 0} {x y z : A} → x ≡ y → y ≡ z → x ≡ z
trans e f = rw e f

taken_given : (xs free : List ℕ) (k : ℕ) →
    ((i j : ℕ) → i < length xs → j < length free → get_or xs i 0 ≢ get_or free j 0) →
    ((i : ℕ) → i < length xs → get_or xs i 0 ≢ k) → (i j : ℕ) → i < length xs →
    j < length free + 1 → get_or xs i 0 ≢ get_or (free ++ k ∷ []) j 0
taken_given xs free k taken far i j li lj e =
    grind (arith, taken i j, far i, before_last free k j, at_last free k j)

-- the last chunk given back
pub given_chunk : (t t' : TapeOf) (p p' : PoolOf) (k : ℕ) → Owns t p →
    length t.chunks ≡ (t.len + 4095) / 4096 → 0 < t.len → t.chunks ≡ t'.chunks ++ k ∷ [] →
    t'.len ≡ (t.len - 1) / 4096 * 4096 → t'.room ≡ t.room →
    p' ≡ record { store = p.store; free = p.free ++ k ∷ []; all = p.all } → Cut t t' p p'
given_chunk t t' p p' k o len some et el er ep =
    let more : length t.chunks ≡ length t'.chunks + 1 = rw et (length-last t'.chunks k) in
    let old : (i : ℕ) → i < length t'.chunks → get_or t.chunks i 0 ≡ get_or t'.chunks i 0 =
    λ i li. rw et (before_last t'.chunks k i li) in
    let last : get_or t.chunks (length t'.chunks) 0 ≡ k =
    rw et (at_last t'.chunks k (length t'.chunks) refl) in
    let same : p'.store ≡ p.store = rw ep refl in
    let every : p'.all ≡ p.all = rw ep refl in
    let freed : p'.free ≡ p.free ++ k ∷ [] = rw ep refl in
    let size : length p'.free ≡ length p.free + 1 = rw freed (length-last p.free k) in
    let far : (i : ℕ) → i < length t'.chunks → get_or t'.chunks i 0 ≢ k =
    λ i li e. let z : i ≡ length t'.chunks =
    o.once i (length t'.chunks) (omega (arith, more, li)) (omega (arith, more))
    (let a = old i li in omega (arith, a, e, last)) in omega (arith, z, li) in
    record {
      len = omega (arith, el, some);
      room = er;
      kept = λ a la.
          let in_chunk : a / 4096 < length t'.chunks = omega (arith, el, len, more, la, some) in
          let there : slot t'.chunks a ≡ slot t.chunks a =
          ap (λ c. c * 4096 + a % 4096) (sym (old (a / 4096) in_chunk)) in
          rw (same, there) refl;
      owned = record {
        inside = λ i li. let h = o.inside i (omega (arith, more, li)) in let a = old i li in
            omega (arith, h, a, every);
        once = λ i j li lj e. let a = old i li in let b = old j lj in
            o.once i j (omega (arith, more, li)) (omega (arith, more, lj)) (omega (arith, a, b, e));
        taken = λ i j li lj.
            rw freed (taken_given t'.chunks p.free k (λ i2 j2 l2 m2 e2. let a = old i2 l2 in
            o.taken i2 j2 (omega (arith, more, l2)) m2 (omega (arith, a, e2))) far i j li
            (omega (arith, lj, size)));
        fits = let h = o.fits in omega (arith, h, every, er);
      };
      others = λ u size_u ou apart_u.
          let far_u : (i : ℕ) → i < length u.chunks → get_or u.chunks i 0 ≢ k = λ i li e.
          apart_u i (length t'.chunks) li (omega (arith, more)) (omega (arith, e, last)) in
          record {
            owned = record {
              inside = λ i li. let h = ou.inside i li in omega (arith, h, every);
              once = ou.once;
              taken = λ i j li lj. rw freed
                  (taken_given u.chunks p.free k ou.taken far_u i j li (omega (arith, lj, size)));
              fits = let h = ou.fits in omega (arith, h, every);
            };
            apart = λ i j li lj e. let a = old j lj in
                apart_u i j li (omega (arith, more, lj)) (omega (arith, a, e));
            frames = λ a la. rw same refl;
          };
      chunks = omega (arith, size, more);
      all = every;
      store = same;
    }

-- one cut behind another is a cut
pub cut_then : (t u v : TapeOf) (p q r : PoolOf) → length t.chunks ≡ (t.len + 4095) / 4096 →
    Cut t u p q → Cut u v q r → Cut t v p r
cut_then t u v p q r size a b = record {
  len = let h = a.len in let g = b.len in omega (arith, h, g);
  room = let h = a.room in let g = b.room in omega (arith, h, g);
  kept = λ k lk. let g = b.len in let x = b.kept k lk in let y = a.kept k (omega (arith, lk, g)) in
      trans x y;
  owned = b.owned;
  others = λ w size_w ow apart_w.
      let s = a.others w size_w ow apart_w in
      let s2 = b.others w size_w s.owned s.apart in
      record {
        owned = s2.owned;
        apart = s2.apart;
        frames = λ k lk. let x = s2.frames k lk in
            let y = s.frames k lk in trans x y;
      };
  chunks = let h = a.chunks in let g = b.chunks in omega (arith, h, g);
  all = let h = a.all in let g = b.all in omega (arith, h, g);
  store = trans b.store a.store;
}

-- nothing cut is a cut
pub cut_none : (t : TapeOf) (p : PoolOf) → Owns t p → Cut t t p p
cut_none t p o = record {
  len = omega arith;
  room = refl;
  kept = λ a la. refl;
  owned = o;
  others =
      λ u size ou apart. record { owned = ou; apart = apart; frames = λ a la. refl };
  chunks =
      refl;
  all = refl;
  store = refl;
}

-- fewer frames of the same chunks are a cut
pub cut_shorter : (t u : TapeOf) (p q : PoolOf) (n : ℕ) → Cut t u p q → n ≤ u.len →
    Cut t (record { chunks = u.chunks; len = n; room = u.room }) p q
cut_shorter t u p q n a le = record {
  len = let h = a.len in omega (arith, h, le);
  room = a.room;
  kept = λ k lk. a.kept k (omega (arith, lk, le));
  owned = record {
    inside = a.owned.inside;
    once = a.owned.once;
    taken = a.owned.taken;
    fits =
        a.owned.fits;
  };
  others = λ w size ow apart. let s = a.others w size ow apart in
      record { owned = s.owned; apart = s.apart; frames = s.frames };
  chunks = a.chunks;
  all = a.all;
  store = a.store;
}

-- and so they are on another tape with these chunks
pub cut_shorter_to : (t u v : TapeOf) (p q : PoolOf) → Cut t u p q → v.chunks ≡ u.chunks →
    v.room ≡ u.room → v.len ≤ u.len → Cut t v p q
cut_shorter_to t u v p q a ec er le = let h = cut_shorter t u p q v.len a le in
    let e : record { chunks = u.chunks; len = v.len; room = u.room } ≡ v =
    rw (sym ec, sym er) refl in subst (λ x. Cut t x p q) e h

pub ruleset gives = (room_left, given_chunk, owned_taken)

pub ruleset cuts = (cut_none, cut_then, cut_shorter)
