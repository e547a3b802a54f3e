-- Serving OSC goes on, step by step.
use Rattle.std.proofs.Common.{◌≡◌, ◌≤◌, ℕ, List, [], ◌∷◌, ◌++◌, Option, Some, None, refl, sym, ap, ap₂, ◌∙◌, subst, append_assoc, append-nil, arith}
use Rattle.std.proofs.lemmas.Grind.{flat_map-append}
use Rattle.sl_commands.specs.declared.reply.Reply.{Reply}
use Rattle.sl_commands.specs.declared.command.Command.{Command}
use Rattle.osc_paths.specs.declared.request.ReturnTo.{ReturnTo}
use Rattle.event_rings.specs.Ends.{PutEnd, TakeEnd, SamePutRing, SameTakeRing}
use Rattle.live_ports.specs.Sources.{Consumes}
use Rattle.live_ports.specs.Links.{Packet, LinkSeen}
use Rattle.senders.specs.declared.decision.Decision.{Decision}
use Rattle.senders.specs.Tallies.{TallyOf}
use Rattle.senders.specs.Hearing.{Hears}
use Rattle.senders.specs.Senders.{OscSenderOf, StaysSender}
use Rattle.senders.proofs.HearingLemmas.{hears_joined}
use Rattle.reply_sending.specs.Answers.{return_for, reply_packet, AreTold, pongs_for, pongs_after}
use Rattle.reply_sending.specs.Sending.{post, Post, Sending}
use Rattle.reply_sending.specs.Posting.{Posted, PostedPongs}
use Rattle.reply_sending.proofs.SendingLemmas.{sending_joined, sending_none, sending_reply}
use Rattle.reply_sending.proofs.ToldLemmas.{told_grown, told_joined, pongs_for-append, hears_pongs}
use Rattle.osc_serving.specs.Serving.{OscAt, osc_at, posted, heard_in, inputs_of, OscWent}
use Rattle.osc_serving.specs.Turns.{Receives}
use Rattle.osc_serving.proofs.GrowingLemmas.{hears_grew, hears_none}

consumes_none : (left left' : Option (List Packet)) → left' ≡ left → Consumes left [] left'
consumes_none None left' e = tt
consumes_none (Some l) left' e = subst (Consumes (Some l) []) (sym e) refl

consumes_joined : (a b c : Option (List Packet)) (xs ys : List Packet) → Consumes a xs b →
    Consumes b ys c → Consumes a (xs ++ ys) c
consumes_joined None b c xs ys p q = tt
consumes_joined (Some l) None c xs ys p q = elim p [ ]
consumes_joined (Some l) (Some m) None xs ys p q = elim q [ ]
consumes_joined (Some l) (Some m) (Some n) xs ys p q =
    p ∙ ap (λ r. xs ++ r) q ∙ sym (append_assoc xs ys n)

same_put_joined : (a b c : PutEnd Command) → SamePutRing a b → SamePutRing b c → SamePutRing a c
same_put_joined a b c x y =
    record {
      name = y.name ∙ x.name;
      kind = y.kind ∙ x.kind;
      capacity = y.capacity ∙ x.capacity;
      limit = y.limit ∙ x.limit;
      bound = y.bound ∙ x.bound;
    }

same_put : (a b : PutEnd Command) → b ≡ a → SamePutRing a b
same_put a b e =
    record {
      name = ap (λ (p : PutEnd Command). p.name) e;
      kind = ap (λ (p : PutEnd Command). p.is_still) e;
      capacity = ap (λ (p : PutEnd Command). p.capacity) e;
      limit = ap (λ (p : PutEnd Command). p.limit) e;
      bound = ap (λ (p : PutEnd Command). p.bound) e;
    }

pub same_take_joined : {T : Type 0} (a b c : TakeEnd T) → SameTakeRing a b → SameTakeRing b c →
    SameTakeRing a c
same_take_joined a b c x y =
    record {
      name = y.name ∙ x.name;
      kind = y.kind ∙ x.kind;
      capacity = y.capacity ∙ x.capacity;
      limit = y.limit ∙ x.limit;
      bound = y.bound ∙ x.bound;
    }

pub same_take : {T : Type 0} (a : TakeEnd T) → SameTakeRing a a
same_take a = record { name = refl; kind = refl; capacity = refl; limit = refl; bound = refl }

-- one passage behind another
pub went_joined : (hs hs' rs' : List Packet) (ts ts' ks' : List Reply) (x y z : OscAt) →
    OscWent hs hs ts ts x y → OscWent hs' rs' ts' ks' y z →
    OscWent (hs ++ hs') (hs ++ rs') (ts ++ ts') (ts ++ ks') x z
went_joined hs hs' rs' ts ts' ks' x y z p q =
    let more = hears_grew y.sender.ring.capacity (inputs_of y.sender.loops hs')
    y.sender.account.tally z.sender.account.tally q.decided q.hears in
    let inputs : inputs_of x.sender.loops (hs ++ hs') ≡
    inputs_of x.sender.loops hs ++ inputs_of x.sender.loops hs' =
    flat_map-append (heard_in x.sender.loops) hs hs' in
    let hears = subst (λ k. Hears k (inputs_of x.sender.loops hs') y.sender.account.tally
    z.sender.account.tally q.decided) p.ring.capacity
    (subst (λ k. Hears y.sender.ring.capacity (inputs_of k hs') y.sender.account.tally
    z.sender.account.tally q.decided) p.loops q.hears) in
    let sending = subst (λ k. Sending q.tells (pongs_for k (inputs_of k hs')) (posted y)
    (posted z)) p.loops q.sending in
    let told = subst (λ k. AreTold k ts p.tells) (sym more.is)
    (told_grown y.sender.account.tally.accepted more.more ts p.tells p.are_told) in
    let rec = p.receives in
    let rec' = q.receives in
    let idle = p.idles in
    let idle' = q.idles in
    record {
      loops = q.loops ∙ p.loops;
      ring = same_put_joined x.sender.ring y.sender.ring z.sender.ring p.ring q.ring;
      read = consumes_joined x.link.left y.link.left z.link.left hs rs' p.read q.read;
      decided = p.decided ++ q.decided;
      hears = subst (λ k. Hears x.sender.ring.capacity k x.sender.account.tally
          z.sender.account.tally (p.decided ++ q.decided)) (sym inputs)
          (hears_joined x.sender.ring.capacity (inputs_of x.sender.loops hs)
          (inputs_of x.sender.loops hs') x.sender.account.tally y.sender.account.tally
          z.sender.account.tally p.decided q.decided p.hears hears);
      same_replies = same_take_joined x.replies y.replies z.replies p.same_replies q.same_replies;
      took = q.took ∙ ap (λ k. k ++ ks') p.took ∙ append_assoc x.replies.taken ts ks';
      tells = p.tells ++ q.tells;
      are_told = told_joined z.sender.account.tally.accepted ts ts' p.tells q.tells told q.are_told;
      sending = subst (λ k. Sending (p.tells ++ q.tells) k (posted x) (posted z))
          (sym (ap (pongs_for x.sender.loops) inputs
          ∙ pongs_for-append x.sender.loops (inputs_of x.sender.loops hs)
          (inputs_of x.sender.loops hs')))
          (sending_joined p.tells q.tells (pongs_for x.sender.loops (inputs_of x.sender.loops hs))
          (pongs_for x.sender.loops (inputs_of x.sender.loops hs')) (posted x) (posted y)
          (posted z) p.sending sending);
      receives = omega arith;
      idles = omega arith;
      same_over = same_take_joined x.over y.over z.over p.same_over q.same_over;
    }

abbrev post_of : Option (List Packet) → ℕ → ℕ → Post
post_of out unsent sends = record { out = out; unsent = unsent; sends = sends }

pub same_post : (l l' : LinkSeen) (n : ℕ) → l'.out ≡ l.out → l'.sends ≡ l.sends →
    post l' n ≡ post l n
same_post l l' n out sends = ap₂ (λ o k. post_of o n k) out sends

-- nothing was heard, told or sent
pub went_quiet : (rs : List Packet) (ks : List Reply) (l l' : LinkSeen) (s : OscSenderOf)
    (r r' : TakeEnd Reply) (o o' : TakeEnd ℕ) → Consumes l.left rs l'.left → l'.out ≡ l.out →
    l'.sends ≡ l.sends → l.receives ≤ l'.receives → l.idles ≤ l'.idles → SameTakeRing r r' →
    r'.taken ≡ r.taken ++ ks → SameTakeRing o o' →
    OscWent [] rs [] ks (osc_at l s r o) (osc_at l' s r' o')
went_quiet rs ks l l' s r r' o o' read out sends receives idles same took over =
    record {
      loops = refl;
      ring = same_put s.ring s.ring refl;
      read = read;
      decided = [];
      hears = hears_none s.ring.capacity s.account.tally;
      same_replies = same;
      took = took;
      tells = [];
      are_told = refl;
      sending = sending_none (post l s.account.unsent) (post l' s.account.unsent)
          (same_post l l' s.account.unsent out sends);
      receives = receives;
      idles = idles;
      same_over = over;
    }

-- a receive changed nothing but the link
pub went_received : (rs : List Packet) (l l' : LinkSeen) (s : OscSenderOf) →
    Consumes l.left rs l'.left → l'.out ≡ l.out → l'.sends ≡ l.sends →
    l.receives ≤ l'.receives → l.idles ≤ l'.idles → Receives [] rs l l' s s
went_received rs l l' s read out sends receives idles r o =
    went_quiet rs [] l l' s r r o o read out sends receives idles (same_take r)
    (sym (append-nil r.taken)) (same_take o)

-- replies were taken and not told, or none was
pub went_took : (ks : List Reply) (l : LinkSeen) (s : OscSenderOf) (r r' : TakeEnd Reply)
    (o o' : TakeEnd ℕ) → SameTakeRing r r' → r'.taken ≡ r.taken ++ ks → SameTakeRing o o' →
    OscWent [] [] [] ks (osc_at l s r o) (osc_at l s r' o')
went_took ks l s r r' o o' same took over =
    went_quiet [] ks l l s r r' o o' (consumes_none l.left l.left refl) refl refl (omega arith)
    (omega arith) same took over

-- one reply was taken and told
pub went_reply : (l l' : LinkSeen) (s s' : OscSenderOf) (r r' : TakeEnd Reply) (o : TakeEnd ℕ)
    (reply : Reply) (to : ReturnTo) → SameTakeRing r r' → r'.taken ≡ r.taken ++ reply ∷ [] →
    return_for s.account.tally.accepted reply ≡ Some to →
    Posted (reply_packet reply to) l l' s s' →
    OscWent [] [] (reply ∷ []) (reply ∷ []) (osc_at l s r o) (osc_at l' s' r' o)
went_reply l l' s s' r r' o reply to same took address p =
    let ring : s'.ring ≡ s.ring = ap (λ (z : OscSenderOf). z.ring) p.sender in
    let tally : s'.account.tally ≡ s.account.tally =
    ap (λ (z : OscSenderOf). z.account.tally) p.sender in
    let unsent = ap (λ (z : OscSenderOf). z.account.unsent) p.sender in
    record {
      loops = ap (λ (z : OscSenderOf). z.loops) p.sender;
      ring = same_put s.ring s'.ring ring;
      read = consumes_none l.left l'.left p.receiving.left;
      decided = [];
      hears = subst (λ (t : TallyOf). Hears s.ring.capacity [] s.account.tally t []) (sym tally)
          (hears_none s.ring.capacity s.account.tally);
      same_replies = same;
      took = took;
      tells = reply_packet reply to ∷ [];
      are_told = (
        to,
        [],
        ap (λ (t : TallyOf). return_for t.accepted reply) tally ∙ address,
        refl,
        refl,
      );
      sending = sending_reply p.was_sent (reply_packet reply to) (post l s.account.unsent)
          (post l' s'.account.unsent) p.out p.sends unsent;
      receives = (let e = p.receiving.receives in omega arith);
      idles = (let e = p.receiving.idles in omega arith);
      same_over = same_take o;
    }

-- one packet was heard, and its pings were answered
pub went_packet : (l l' l'' : LinkSeen) (s s' s'' : OscSenderOf) (p : Packet)
    (ds : List Decision) → Consumes l.left (p ∷ []) l'.left → l'.out ≡ l.out →
    l'.sends ≡ l.sends → l.receives ≤ l'.receives → l.idles ≤ l'.idles → StaysSender s s' →
    Hears s.ring.capacity (heard_in s.loops p) s.account.tally s'.account.tally ds →
    PostedPongs ds l' l'' s' s'' → Receives (p ∷ []) (p ∷ []) l l'' s s''
went_packet l l' l'' s s' s'' p ds read out sends receives idles stays heard answered r o =
    let ring : s''.ring ≡ s'.ring = ap (λ (z : OscSenderOf). z.ring) answered.sender in
    let tally : s''.account.tally ≡ s'.account.tally =
    ap (λ (z : OscSenderOf). z.account.tally) answered.sender in
    let one : inputs_of s.loops (p ∷ []) ≡ heard_in s.loops p = append-nil (heard_in s.loops p) in
    let pongs : pongs_after s'.loops ds ≡ pongs_for s.loops (inputs_of s.loops (p ∷ [])) =
    ap (λ k. pongs_after k ds) stays.loops
    ∙ hears_pongs s.loops s.ring.capacity (heard_in s.loops p) s.account.tally
    s'.account.tally ds heard ∙ ap (pongs_for s.loops) (sym one) in
    let from : post l' s'.account.unsent ≡ post l s.account.unsent =
    ap (post l') stays.unsent ∙ same_post l l' s.account.unsent out sends in
    record {
      loops = ap (λ (z : OscSenderOf). z.loops) answered.sender ∙ stays.loops;
      ring = same_put_joined s.ring s'.ring s''.ring stays.ring (same_put s'.ring s''.ring ring);
      read = subst (Consumes l.left (p ∷ [])) (sym answered.receiving.left) read;
      decided = ds;
      hears = subst (λ (t : TallyOf). Hears s.ring.capacity (inputs_of s.loops (p ∷ []))
          s.account.tally t ds) (sym tally)
          (subst (λ k. Hears s.ring.capacity k s.account.tally s'.account.tally ds) (sym one)
          heard);
      same_replies = same_take r;
      took = sym (append-nil r.taken);
      tells = [];
      are_told = refl;
      sending = subst (λ k. Sending [] k (post l s.account.unsent) (post l'' s''.account.unsent))
          pongs (subst (λ (q : Post). Sending [] (pongs_after s'.loops ds) q
          (post l'' s''.account.unsent)) from answered.sending);
      receives = (let e = answered.receiving.receives in omega arith);
      idles = (let e = answered.receiving.idles in omega arith);
      same_over = same_take o;
    }
