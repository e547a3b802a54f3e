-- Sends, one after another.
use Rattle.std.proofs.Common.{◌≡◌, ℕ, ◌+◌, Bool, true, false, List, [], ◌∷◌, ◌++◌, Option, Some, None, refl, sym, ap, ap₂, ◌∙◌, subst, append_assoc, append-nil, arith}
use Rattle.std.specs.Prelude.{not}
use Rattle.sl_base.specs.Counting.{Counts, RoseBy}
use Rattle.live_ports.specs.Links.{Packet, Adds, sent_if}
use Rattle.reply_sending.specs.Sending.{Event, event, put_if, put_unless, one_unless, replies_of, pongs_of, sent_of, lost_of, raised_by, Post, Sending}

put_if-append : (b : Bool) (p : Packet) (xs ys : List Packet) →
    put_if b p (xs ++ ys) ≡ put_if b p xs ++ ys
put_if-append true p xs ys = refl
put_if-append false p xs ys = refl

put_unless-append : (b : Bool) (p : Packet) (xs ys : List Packet) →
    put_unless b p (xs ++ ys) ≡ put_unless b p xs ++ ys
put_unless-append true p xs ys = refl
put_unless-append false p xs ys = refl

replies_of-append : (xs ys : List Event) →
    replies_of (xs ++ ys) ≡ replies_of xs ++ replies_of ys
replies_of-append [] ys = refl
replies_of-append (x ∷ xs) ys =
    ap (put_if x.tells_reply x.packet) (replies_of-append xs ys)
    ∙ put_if-append x.tells_reply x.packet (replies_of xs) (replies_of ys)

pongs_of-append : (xs ys : List Event) → pongs_of (xs ++ ys) ≡ pongs_of xs ++ pongs_of ys
pongs_of-append [] ys = refl
pongs_of-append (x ∷ xs) ys =
    ap (put_unless x.tells_reply x.packet) (pongs_of-append xs ys)
    ∙ put_unless-append x.tells_reply x.packet (pongs_of xs) (pongs_of ys)

sent_of-append : (xs ys : List Event) → sent_of (xs ++ ys) ≡ sent_of xs ++ sent_of ys
sent_of-append [] ys = refl
sent_of-append (x ∷ xs) ys =
    ap (put_if x.was_sent x.packet) (sent_of-append xs ys)
    ∙ put_if-append x.was_sent x.packet (sent_of xs) (sent_of ys)

lost_of-append : (xs ys : List Event) → lost_of (xs ++ ys) ≡ lost_of xs + lost_of ys
lost_of-append [] ys = omega arith
lost_of-append (x ∷ xs) ys = let more = lost_of-append xs ys in omega arith

adds_both : (a b c : Option (List Packet)) (xs ys : List Packet) → Adds a xs b → Adds b ys c →
    Adds a (xs ++ ys) c
adds_both None b c xs ys p q = tt
adds_both (Some l) b c xs ys p q =
    subst (λ o. Adds o ys c) p q ∙ ap Some (append_assoc l xs ys)

adds_none : (a : Option (List Packet)) → Adds a [] a
adds_none None = tt
adds_none (Some l) = ap Some (sym (append-nil l))

-- sends behind others
pub sending_joined : (rs rs' ps ps' : List Packet) (a b c : Post) → Sending rs ps a b →
    Sending rs' ps' b c → Sending (rs ++ rs') (ps ++ ps') a c
sending_joined rs rs' ps ps' a b c x y =
    let more = lost_of-append x.events y.events in
    let first = x.unsent in
    let next = y.unsent in
    let rose = x.rose in
    let rose' = y.rose in
    record {
      events = x.events ++ y.events;
      told = ap₂ (λ u v. u ++ v) x.told y.told ∙ sym (replies_of-append x.events y.events);
      answered = ap₂ (λ u v. u ++ v) x.answered y.answered
          ∙ sym (pongs_of-append x.events y.events);
      out = subst (λ l. Adds a.out l c.out) (sym (sent_of-append x.events y.events))
          (adds_both a.out b.out c.out (sent_of x.events) (sent_of y.events) x.out y.out);
      unsent = omega arith;
      rose = omega arith;
    }

-- nothing is sent
pub sending_none : (p p' : Post) → p' ≡ p → Sending [] [] p p'
sending_none p p' same =
    subst (λ (q : Post). Sending [] [] p q) (sym same)
    (record {
      events = [];
      told = refl;
      answered = refl;
      out = adds_none p.out;
      unsent = omega arith;
      rose = omega arith;
    })

sent_is : (b : Bool) (p : Packet) → sent_if b p ≡ put_if b p []
sent_is true p = refl
sent_is false p = refl

rose_one : (b : Bool) (n n' : ℕ) → Counts n n' (not b) → RoseBy (one_unless b) n n'
rose_one true n n' c = let l = c.later in omega arith
rose_one false n n' c = let r = c.rose refl in omega arith

-- one reply is sent, or counted
pub sending_reply : (b : Bool) (p : Packet) (q q' : Post) → Adds q.out (sent_if b p) q'.out →
    Counts q.sends q'.sends (not b) → q'.unsent ≡ raised_by (one_unless b) q.unsent →
    Sending (p ∷ []) [] q q'
sending_reply b p q q' out sends unsent =
    let rose = rose_one b q.sends q'.sends sends in
    record {
      events = event true b p ∷ [];
      told = refl;
      answered = refl;
      out = subst (λ l. Adds q.out l q'.out) (sent_is b p) out;
      unsent = omega arith;
      rose = omega arith;
    }

-- one answer to a ping is
pub sending_pong : (b : Bool) (p : Packet) (q q' : Post) → Adds q.out (sent_if b p) q'.out →
    Counts q.sends q'.sends (not b) → q'.unsent ≡ raised_by (one_unless b) q.unsent →
    Sending [] (p ∷ []) q q'
sending_pong b p q q' out sends unsent =
    let rose = rose_one b q.sends q'.sends sends in
    record {
      events = event false b p ∷ [];
      told = refl;
      answered = refl;
      out = subst (λ l. Adds q.out l q'.out) (sent_is b p) out;
      unsent = omega arith;
      rose = omega arith;
    }
