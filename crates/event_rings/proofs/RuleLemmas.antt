-- Each kind of step keeps the rule of a ring, and tells the end that takes it what its contract
-- says.
use Rattle.std.proofs.Common.{◌+◌, ◌≡◌, ◌≢◌, ◌≤◌, ◌<◌, ℕ, zero, suc, true, false, true≢false, List, [], ◌∷◌, ◌++◌, length, set, sym, refl, ap, ◌∙◌, subst, ⊎_elim, append_assoc, append-nil, arith, length-append}
use mathlib.Core.Option.{some, some-ne-none}
use lib.ListN.{get_elem?}
use Rattle.crossbeam_queue.specs.Fifo.{Pushes, Pops, Forks, Merges, Learns}
use Rattle.crossbeam_queue.proofs.Lists.{at_set, at_snoc}
use Rattle.event_rings.specs.declared.known.Known.{Known}
use Rattle.event_rings.specs.Known.{known, EachFollows, IsPutter, IsTaker}
use Rattle.event_rings.specs.Rule.{IsRing, Whole, SameNumbers, Puts, Fits, Kept, Takes, Drains}

module _ {T : Type 0} where
  -- where a ring holds its capacity, at least as many were sent
  pub many_sent : (sent taken held : List T) (capacity : ℕ) → sent ≡ taken ++ held →
      length held ≡ capacity → capacity ≤ length sent
  many_sent sent taken held capacity order whole =
      let all = ap length order ∙ length-append taken held in omega (arith, all, whole)

  -- an element that is only there with one more at the end is that one
  at_end : (l : List (Known T)) (a b : Known T) (j : ℕ) → get_elem? l j ≢ some b →
      get_elem? (l ++ a ∷ []) j ≡ some b → j ≡ length l
  at_end [] a b zero n e = refl
  at_end [] a b (suc j) n e = absurd (some-ne-none b (sym e))
  at_end (x ∷ xs) a b zero n e = absurd (n e)
  at_end (x ∷ xs) a b (suc j) n e = ap suc (at_end xs a b j n e)

  -- each pass meets F
  abbrev All : (ℕ → Known T → Type 0) → List (Known T) → Type 0
  All F views = (port : ℕ) (v : Known T) → get_elem? views port ≡ some v → F port v

  -- one pass knows something else, and the others meet F as before
  all_set :
      (F : ℕ → Known T → Type 0) (views : List (Known T)) (port : ℕ) (w : Known T) → F port w
      → ((j : ℕ) (u : Known T) → j ≢ port → get_elem? views j ≡ some u → F j u) →
      All F (set views port w)
  all_set F views port w mine others j u e =
      ⊎_elim (λ (x : (j ≡ port) × (w ≡ u)).
      subst (λ (y : ℕ × Known T). F y.0 y.1) (λ i. (sym x.0 i, x.1 i)) mine)
      (λ (x : (j ≢ port) × (get_elem? views j ≡ some u)). others j u x.0 x.1)
      (at_set views port j w u e)

  -- one more item that may follow
  pub follows_more :
      (follows : List T → T → ℕ → Type 0) (bound : ℕ) (before xs : List T) (x : T) →
      EachFollows follows bound before xs
      → follows (before ++ xs) x bound → EachFollows follows bound before (xs ++ x ∷ [])
  follows_more follows bound before [] x each may =
      (subst (λ l. follows l x bound) (append-nil before) may, tt)
  follows_more follows bound before (y ∷ ys) x each may = (
    each.0,
    follows_more follows bound (before ++ y ∷ []) ys x each.1
        (subst (λ l. follows l x bound) (sym (append_assoc before (y ∷ []) ys)) may),
  )

  -- an item in the middle may follow those before it
  pub follows_there :
      (follows : List T → T → ℕ → Type 0) (bound : ℕ) (before xs : List T) (x : T) (after : List T)
      → EachFollows follows bound before (xs ++ x ∷ after) → follows (before ++ xs) x bound
  follows_there follows bound before [] x after each =
      subst (λ l. follows l x bound) (sym (append-nil before)) each.0
  follows_there follows bound before (y ∷ ys) x after each =
      subst (λ l. follows l x bound) (append_assoc before (y ∷ []) ys)
      (follows_there follows bound (before ++ y ∷ []) ys x after each.1)

  module _ (follows : List T → T → ℕ → Type 0) where
    -- a ring of which nothing was ever sent
    nothing : (capacity limit bound : ℕ) → IsRing follows [] [] [] capacity limit bound
    nothing capacity limit bound =
        record { order = refl; room = omega arith; few = omega arith; each = tt }

    -- one more item put
    pub ring-put :
        (sent taken held : List T) (capacity limit bound : ℕ) (x : T) →
        IsRing follows sent taken held capacity limit bound
        → length held < capacity → length sent < limit → follows sent x bound
        → IsRing follows (sent ++ x ∷ []) taken (held ++ x ∷ []) capacity limit bound
    ring-put sent taken held capacity limit bound x is short room may =
        record {
          order = ap (λ l. l ++ x ∷ []) is.order ∙ append_assoc taken held (x ∷ []);
          room = omega (arith, length-append held (x ∷ []), short);
          few = omega (arith, length-append sent (x ∷ []), room);
          each = follows_more follows bound [] sent x is.each may;
        }

    -- the next item taken
    pub ring-take :
        (sent taken held : List T) (capacity limit bound : ℕ) (x : T) →
        IsRing follows sent taken (x ∷ held) capacity limit bound
        → IsRing follows sent (taken ++ x ∷ []) held capacity limit bound
    ring-take sent taken held capacity limit bound x is =
        record {
          order = is.order ∙ sym (append_assoc taken (x ∷ []) held);
          room = omega (arith, is.room);
          few = is.few;
          each = is.each;
        }

    -- the next item may follow those that were taken
    pub ring-next :
        (sent taken held : List T) (capacity limit bound : ℕ) (x : T) →
        IsRing follows sent taken (x ∷ held) capacity limit bound
        → follows taken x bound
    ring-next sent taken held capacity limit bound x is =
        follows_there follows bound [] taken x held
        (subst (λ l. EachFollows follows bound [] l) is.order is.each)

    -- a queue that was just made, with one pass that may do all
    pub begins : Kept follows [] (known true true [] [] 0 0 0 ∷ [])
    begins =
        let v : Known T = known true true [] [] 0 0 0 in
        let w : Whole T = record {
          putter = 0;
          taker = 0;
          capacity = 0;
          limit = 0;
          bound = 0;
          sent =
              [];
          taken = [];
        } in
        let same : SameNumbers w v = record { capacity = refl; limit = refl; bound = refl } in
        let fit : Fits w 0 v =
        record {
          puts = λ _. record { port_is = refl; sent = refl; numbers = same };
          takes = λ _. record { port_is = refl; taken = refl; numbers = same };
        } in
        record {
          whole = w;
          ring = nothing 0 0 0;
          fits = all_set (Fits w) (v ∷ []) 0 v fit
              (λ j u other e. absurd (other (at_end [] _ u j (λ x. some-ne-none u (sym x)) e)));
        }

    -- what a pass that puts is told of a full queue
    pub put_learns :
        (port : ℕ) (v : Known T) → v.puts ≡ true
        → Learns (Kept follows) port v (λ items. (taken : List T) × (v.sent ≡ taken ++ items))
    put_learns port v may items views h at =
        (h.whole.taken, ((h.fits port v at).puts may).sent ∙ h.ring.order)

    -- what a pass that takes is told of an empty one
    pub take_learns :
        (port : ℕ) (v : Known T) → v.takes ≡ true
        → Learns (Kept follows) port v (λ items. (sent : List T) × (sent ≡ v.taken ++ items))
    take_learns port v may items views h at = (
      h.whole.sent,
      h.ring.order
          ∙ ap (λ l. l ++ items) (sym ((h.fits port v at).takes may).taken),
    )

    -- what a pass that puts and takes is told: the whole ring
    pub both_learn :
        (port : ℕ) (v : Known T) → v.puts ≡ true → v.takes ≡ true
        → Learns (Kept follows) port v
        (λ items. IsRing follows v.sent v.taken items v.capacity v.limit v.bound)
    both_learn port v puts takes items views h at =
        let p = (h.fits port v at).puts puts in
        let t = (h.fits port v at).takes takes in
        let count : length v.sent ≡ length h.whole.sent = ap length p.sent in
        record {
          order = p.sent ∙ h.ring.order ∙ ap (λ l. l ++ items) (sym t.taken);
          room = omega (arith, h.ring.room, p.numbers.capacity);
          few = omega (arith, h.ring.few, p.numbers.limit, count);
          each = subst (λ (y : List T × ℕ). EachFollows follows y.1 [] y.0)
              (λ i. (sym p.sent i, sym p.numbers.bound i)) h.ring.each;
        }

    -- a put that is done
    pub puts :
        (n port : ℕ) (v : Known T) (x : T) → v.puts ≡ true → v.takes ≡ false → v.capacity ≡ n →
        length v.sent < v.limit
        → follows v.sent x v.bound
        → Pushes (Kept follows) n port v x
        (λ w. w ≡ known v.puts v.takes (v.sent ++ x ∷ []) v.taken v.capacity v.limit v.bound)
    puts n port v x may only cap room next items views short h at =
        let w : Known T = known v.puts v.takes (v.sent ++ x ∷ []) v.taken v.capacity v.limit
        v.bound in
        let o : Whole T = h.whole in
        let mine = (h.fits port v at).puts may in
        let same : SameNumbers o v = mine.numbers in
        let now : Whole T =
        record {
          putter = o.putter;
          taker = o.taker;
          capacity = o.capacity;
          limit = o.limit;
          bound =
              o.bound;
          sent = o.sent ++ x ∷ [];
          taken = o.taken;
        } in
        let same' : SameNumbers now w =
        record { capacity = same.capacity; limit = same.limit; bound = same.bound } in
        let next' : follows o.sent x o.bound =
        subst (λ (y : List T × ℕ). follows y.0 x y.1) (λ i. (mine.sent i, same.bound i)) next in
        let count : length v.sent ≡ length o.sent = ap length mine.sent in
        let fit : Fits now port w =
        record {
          puts = λ _. record {
            port_is = mine.port_is;
            sent = ap (λ l. l ++ x ∷ []) mine.sent;
            numbers = same';
          };
          takes = λ t. absurd (true≢false (sym t ∙ only));
        } in
        let other : (j : ℕ) (u : Known T) → j ≢ port → get_elem? views j ≡ some u → Fits now j u =
        λ j u apart e.
        let was = h.fits j u e in
        record {
          puts = λ p. absurd (apart ((was.puts p).port_is ∙ sym mine.port_is));
          takes = λ t. let is = was.takes t in
              record {
                port_is = is.port_is;
                taken = is.taken;
                numbers = record {
                  capacity = is.numbers.capacity;
                  limit = is.numbers.limit;
                  bound =
                      is.numbers.bound;
                };
              };
        } in (
          w,
          record {
            whole = now;
            ring =
                ring-put o.sent o.taken items o.capacity o.limit o.bound x h.ring
                (omega (arith, short, cap, same.capacity))
                (omega (arith, room, count, same.limit)) next';
            fits = all_set (Fits now) views port w fit other;
          },
          refl,
        )

    -- a take that gives an item; the pass may know what was sent too
    pub takes :
        (port : ℕ) (v : Known T) → v.takes ≡ true → Pops (Kept follows) port v (Takes follows v)
    takes port v may x items views h at =
        let w : Known T = known v.puts v.takes v.sent (v.taken ++ x ∷ []) v.capacity v.limit
        v.bound in
        let o : Whole T = h.whole in
        let is = h.fits port v at in
        let mine = is.takes may in
        let same : SameNumbers o v = mine.numbers in
        let now : Whole T =
        record {
          putter = o.putter;
          taker = o.taker;
          capacity = o.capacity;
          limit = o.limit;
          bound =
              o.bound;
          sent = o.sent;
          taken = o.taken ++ x ∷ [];
        } in
        let count : length v.taken ≡ length o.taken = ap length mine.taken in
        let whole : length o.sent ≡ length o.taken + length (x ∷ items) =
        ap length h.ring.order ∙ length-append o.taken (x ∷ items) in
        let few : length (v.taken ++ x ∷ []) ≤ v.limit =
        omega (arith, length-append v.taken (x ∷ []), count, whole, same.limit, h.ring.few) in
        let there : follows o.taken x o.bound =
        ring-next o.sent o.taken items o.capacity o.limit o.bound x h.ring in
        let same' : SameNumbers now w =
        record { capacity = same.capacity; limit = same.limit; bound = same.bound } in
        let fit : Fits now port w =
        record {
          puts = λ p. let put = is.puts p in
              record { port_is = put.port_is; sent = put.sent; numbers = same' };
          takes = λ _. record {
            port_is = mine.port_is;
            taken = ap (λ l. l ++ x ∷ []) mine.taken;
            numbers = same';
          };
        } in
        let other : (j : ℕ) (u : Known T) → j ≢ port → get_elem? views j ≡ some u → Fits now j u =
        λ j u apart e.
        let was = h.fits j u e in
        record {
          puts = λ p. let put = was.puts p in
              record {
                port_is = put.port_is;
                sent = put.sent;
                numbers = record {
                  capacity = put.numbers.capacity;
                  limit = put.numbers.limit;
                  bound = put.numbers.bound;
                };
              };
          takes = λ t. absurd (apart ((was.takes t).port_is ∙ sym mine.port_is));
        } in (
          w,
          record {
            whole = now;
            ring = ring-take o.sent o.taken items o.capacity o.limit o.bound x h.ring;
            fits = all_set (Fits now) views port w fit other;
          },
          record {
            after = refl;
            may = subst (λ (y : List T × ℕ). follows y.0 x y.1)
                (λ i. (sym mine.taken i, sym same.bound i)) there;
            few = few;
          },
        )

    -- the making of the two ends
    pub makes :
        (port : ℕ) (v : Known T) (capacity limit bound : ℕ) → v ≡ known true true [] [] 0 0 0
        → Forks (Kept follows) port v (known true false [] [] capacity limit bound)
        (known false true [] [] capacity limit bound)
    makes port v capacity limit bound is items views h at =
        let l : Known T = known true false [] [] capacity limit bound in
        let r : Known T = known false true [] [] capacity limit bound in
        let o : Whole T = h.whole in
        let fits = h.fits port v at in
        let a = fits.puts (ap (λ (y : Known T). y.puts) is) in
        let b = fits.takes (ap (λ (y : Known T). y.takes) is) in
        let sent : o.sent ≡ [] = sym a.sent ∙ ap (λ (y : Known T). y.sent) is in
        let taken : o.taken ≡ [] = sym b.taken ∙ ap (λ (y : Known T). y.taken) is in
        let none : items ≡ [] = sym (ap (λ l. l ++ items) taken) ∙ sym h.ring.order ∙ sent in
        let vs : List (Known T) = set views port l in
        let now : Whole T =
        record {
          putter = o.putter;
          taker = length vs;
          capacity = capacity;
          limit = limit;
          bound =
              bound;
          sent = [];
          taken = [];
        } in
        let Old : ℕ → Known T → Type 0 = λ j u. (u.puts ≡ true → Puts now j u) × (u.takes ≢ true) in
        let left : Puts now port l =
        record {
          port_is = a.port_is;
          sent = refl;
          numbers =
              record { capacity = refl; limit = refl; bound = refl };
        } in
        let old : All Old vs =
        all_set Old views port l ((λ _. left), λ p. true≢false (sym p))
        (λ j u other e. (
          (λ p. absurd (other (((h.fits j u e).puts p).port_is ∙ sym a.port_is))),
          λ p. other (((h.fits j u e).takes p).port_is ∙ sym b.port_is),
        )) in
        record {
          whole = now;
          ring = subst (λ (y : List T). IsRing follows [] [] y capacity limit bound) (sym none)
              (nothing capacity limit bound);
          fits = λ j u e.
              ⊎_elim (λ x. record { puts = (old j u x).0; takes = λ p. absurd ((old j u x).1 p) })
              (λ (same : r ≡ u).
              record {
                puts = λ p. absurd (true≢false (sym (ap (λ (y : Known T). y.puts) same ∙ p)));
                takes = λ p.
                    record {
                      port_is = at_end vs r u j (λ x. (old j u x).1 p) e;
                      taken = ap (λ (y : Known T). y.taken) (sym same);
                      numbers = record {
                        capacity = ap (λ (y : Known T). y.capacity) (sym same);
                        limit = ap (λ (y : Known T). y.limit) (sym same);
                        bound = ap (λ (y : Known T). y.bound) (sym same);
                      };
                    };
              })
              (at_snoc vs r u j e);
        }

    -- the meeting: the taker's pass takes in the putter's, which is spent
    pub meets :
        (port : ℕ) (v : Known T) (other : ℕ) (u : Known T) → v.takes ≡ true → u.puts ≡ true
        → Merges (Kept follows) port v other u
        (known true true u.sent v.taken v.capacity v.limit v.bound)
        (known false false [] [] 0 0 0)
    meets port v other u a b items views h at two at' =
        let both : Known T = known true true u.sent v.taken v.capacity v.limit v.bound in
        let spent : Known T = known false false [] [] 0 0 0 in
        let o : Whole T = h.whole in
        let mine = (h.fits port v at).takes a in
        let vs : List (Known T) = set views port both in
        let was : get_elem? views other ≡ some u =
        ⊎_elim (λ x. absurd (two x.0)) (λ x. x.1) (at_set views port other both u at') in
        let theirs = (h.fits other u was).puts b in
        let now : Whole T =
        record {
          putter = port;
          taker = o.taker;
          capacity = o.capacity;
          limit = o.limit;
          bound =
              o.bound;
          sent = o.sent;
          taken = o.taken;
        } in
        let same : SameNumbers now both =
        record {
          capacity = mine.numbers.capacity;
          limit = mine.numbers.limit;
          bound =
              mine.numbers.bound;
        } in
        let fit : Fits now port both =
        record {
          puts = λ _. record { port_is = refl; sent = theirs.sent; numbers = same };
          takes = λ _. record { port_is = mine.port_is; taken = mine.taken; numbers = same };
        } in
        let Now : ℕ → Known T → Type 0 = λ j y. j ≢ other → Fits now j y in
        let fits : All Now vs =
        all_set Now views port both (λ _. fit)
        (λ j y alone e apart.
        let old = h.fits j y e in
        record {
          puts = λ p. absurd (apart ((old.puts p).port_is ∙ sym theirs.port_is));
          takes = λ t. absurd (alone ((old.takes t).port_is ∙ sym mine.port_is));
        }) in
        let gone : Fits now other spent =
        record {
          puts = λ p. absurd (true≢false (sym p));
          takes =
              λ p. absurd (true≢false (sym p));
        } in
        record {
          whole = now;
          ring = record {
            order = h.ring.order;
            room = h.ring.room;
            few = h.ring.few;
            each =
                h.ring.each;
          };
          fits = all_set (Fits now) vs other spent gone (λ j y apart e. fits j y e apart);
        }

    -- a take by a pass that knows both lists
    pub drains :
        (port : ℕ) (v : Known T) → v.puts ≡ true → v.takes ≡ true →
        Pops (Kept follows) port v (Drains follows v)
    drains port v a b x items views h at =
        let t = takes port v b x items views h at in
        let o = both_learn port v a b (x ∷ items) views h at in (
          t.0,
          t.1,
          record {
            taken = t.2;
            rest = items;
            order =
                o.order ∙ sym (append_assoc v.taken (x ∷ []) items);
          },
        )

    -- an end that has put one more item
    pub putter_more :
        (capacity : ℕ) (v : Known T) (x : T) (w : Known T) → IsPutter follows capacity v →
        follows v.sent x v.bound
        → w ≡ known v.puts v.takes (v.sent ++ x ∷ []) v.taken v.capacity v.limit v.bound →
        IsPutter follows capacity w
    putter_more capacity v x w was may is =
        subst (λ (y : Known T). IsPutter follows capacity y) (sym is)
        (record {
          puts = was.puts;
          takes = was.takes;
          capacity_is = was.capacity_is;
          each = follows_more follows v.bound [] v.sent x was.each may;
        })

    -- an end that has taken one more item
    pub taker_more : (v : Known T) (x : T) (w : Known T) → IsTaker follows v → Takes follows v x w →
        IsTaker follows w
    taker_more v x w was more =
        subst (λ (y : Known T). IsTaker follows y) (sym more.after)
        (record {
          takes = was.takes;
          each = follows_more follows v.bound [] v.taken x was.each more.may;
          few = more.few;
        })
