-- A turn of serving OSC, and turns one after another.
use Rattle.std.proofs.Common.{◌≡◌, ◌≤◌, inl, inr, ℕ, ◌+◌, Bool, true, false, List, [], ◌∷◌, ◌++◌, length, Option, Some, None, refl, sym, ap, ◌∙◌, subst, append_assoc, append-nil, length-append, arith}
use Rattle.std.specs.Prelude.{is_some, IfNone, IfSome}
use Rattle.sl_base.specs.Counting.{Rose, RoseBy}
use Rattle.sl_commands.specs.declared.reply.Reply.{Reply}
use Rattle.event_rings.specs.Ends.{TakeEnd, SameTakeRing, IsEmpty, TakesNext}
use Rattle.live_ports.specs.Links.{Packet, LinkSeen}
use Rattle.senders.specs.declared.accepted.Accepted.{Accepted}
use Rattle.senders.specs.Senders.{OscSenderOf}
use Rattle.reply_sending.specs.Answers.{return_for}
use Rattle.osc_serving.specs.declared.serving.OscEnd.{OscEnd}
use Rattle.osc_serving.specs.declared.serving.OscEnd.TheVariants as ends
use Rattle.osc_serving.specs.Serving.{OscAt, osc_at, OscWent, HasReceived, ReceivesFirst, strange_in, OscCause, TookEnd, OscDid}
use Rattle.osc_serving.specs.Turns.{TookReplies, Receives, ReceivesOnce, GoesOn, DidAll}
use Rattle.osc_serving.proofs.WentLemmas.{went_joined, went_took, same_take, same_take_joined}
use Rattle.osc_serving.proofs.RepliesLemmas.{all_told}

rose_later : (n m k : ℕ) → n ≤ m → Rose m k → Rose n k
rose_later n m k later rose = omega arith

rose_by_both : (n m a b c : ℕ) → RoseBy n a b → RoseBy m b c → RoseBy (n + m) a c
rose_by_both n m a b c p q = omega arith

has_received_later : (l l' l'' : LinkSeen) (xs ys : List Packet) → l.receives ≤ l'.receives →
    l.idles ≤ l'.idles → HasReceived ys l' l'' → HasReceived (xs ++ ys) l l''
has_received_later l l' l'' xs ys receives idles (inl some) =
    let both = length-append xs ys in inl (omega arith)
has_received_later l l' l'' xs ys receives idles (inr (inl ended)) = inr (inl ended)
has_received_later l l' l'' xs ys receives idles (inr (inr (inl rose))) =
    inr (inr (inl (rose_later l.idles l'.idles l''.idles idles rose)))
has_received_later l l' l'' xs ys receives idles (inr (inr (inr rose))) =
    inr (inr (inr (rose_later l.receives l'.receives l''.receives receives rose)))

first_later : (l l' l'' : LinkSeen) (xs ys : List Packet) (e : OscEnd) →
    l.receives ≤ l'.receives → l.idles ≤ l'.idles → ReceivesFirst e ys l' l'' →
    ReceivesFirst e (xs ++ ys) l l''
first_later l l' l'' xs ys ends.Over receives idles has =
    has_received_later l l' l'' xs ys receives idles has
first_later l l' l'' xs ys ends.LinkFault receives idles has =
    has_received_later l l' l'' xs ys receives idles has
first_later l l' l'' xs ys ends.Memory receives idles has =
    has_received_later l l' l'' xs ys receives idles has
first_later l l' l'' xs ys (ends.Strange reply) receives idles has = tt

cause_later : (accepted : List Accepted) (l l' l'' : LinkSeen) (e : OscEnd) →
    l'.receives ≡ l.receives → OscCause accepted l' l'' e → OscCause accepted l l'' e
cause_later accepted l l' l'' ends.Over same c = c ∙ same
cause_later accepted l l' l'' ends.LinkFault same c =
    rose_later l.receives l'.receives l''.receives (let e = same in omega arith) c
cause_later accepted l l' l'' ends.Memory same c = c ∙ same
cause_later accepted l l' l'' (ends.Strange reply) same c = (c.0, c.1 ∙ same)

end_later : (o o' o'' : TakeEnd ℕ) (e : OscEnd) → o'.taken ≡ o.taken → TookEnd o' o'' e →
    TookEnd o o'' e
end_later o o' o'' ends.Over same c = (c.0, c.1 ∙ ap (λ k. k ++ c.0 ∷ []) same)
end_later o o' o'' ends.LinkFault same c = c ∙ same
end_later o o' o'' ends.Memory same c = c ∙ same
end_later o o' o'' (ends.Strange reply) same c = c ∙ same

-- what was done behind turns that went on was done by all of them
pub did_later : (x y z : OscAt) (e : OscEnd) → GoesOn x y → OscDid y z e → OscDid x z e
did_later x y z e p q =
    let packets = append_assoc p.packets q.packets q.unheard in
    let told = append_assoc p.told q.told (strange_in e) in
    let counted = length-append p.packets (q.packets ++ q.unheard) in
    record {
      packets = p.packets ++ q.packets;
      unheard = q.unheard;
      told = p.told ++ q.told;
      went = subst (λ rs. OscWent (p.packets ++ q.packets) rs (p.told ++ q.told)
          ((p.told ++ q.told) ++ strange_in e) x z) (sym packets)
          (subst (λ ks. OscWent (p.packets ++ q.packets) (p.packets ++ (q.packets ++ q.unheard))
          (p.told ++ q.told) ks x z) (sym told)
          (went_joined p.packets q.packets (q.packets ++ q.unheard) p.told q.told
          (q.told ++ strange_in e) x y z p.went q.went));
      left_behind = q.left_behind;
      found_none = subst (λ (rs : List Packet). RoseBy (length rs) x.replies.nones z.replies.nones)
          (sym packets)
          (subst (λ k. RoseBy k x.replies.nones z.replies.nones) (sym counted)
          (rose_by_both (length p.packets) (length (q.packets ++ q.unheard)) x.replies.nones
          y.replies.nones z.replies.nones p.nones q.found_none));
      has_received = subst (λ (rs : List Packet). ReceivesFirst e rs x.link z.link) (sym packets)
          (first_later x.link y.link z.link p.packets (q.packets ++ q.unheard) e p.went.receives
          p.went.idles q.has_received);
      cause = cause_later z.sender.account.tally.accepted x.link y.link z.link e p.receives q.cause;
      told_end = end_later x.over y.over z.over e p.taken q.told_end;
    }

-- turns that went on behind others
pub goes_later : (x y z : OscAt) → GoesOn x y → GoesOn y z → GoesOn x z
goes_later x y z p q =
    let counted = length-append p.packets q.packets in
    record {
      packets = p.packets ++ q.packets;
      told = p.told ++ q.told;
      went = went_joined p.packets q.packets q.packets p.told q.told q.told x y z p.went q.went;
      receives = q.receives ∙ p.receives;
      nones = subst (λ k. RoseBy k x.replies.nones z.replies.nones) (sym counted)
          (rose_by_both (length p.packets) (length q.packets) x.replies.nones y.replies.nones
          z.replies.nones p.nones q.nones);
      taken = q.taken ∙ p.taken;
    }

-- the same, where the last of them came to an end
pub all_later : (x y z : OscAt) (e : Option OscEnd) → GoesOn x y → DidAll y z e → DidAll x z e
all_later x y z None p q = (goes_later x y z p q.0, q.1)
all_later x y z (Some e) p q = did_later x y z e p q

-- nothing was done
pub goes_none : (x : OscAt) → GoesOn x x
goes_none x =
    record {
      packets = [];
      told = [];
      went = went_took [] x.link x.sender x.replies x.replies x.over x.over (same_take x.replies)
          (sym (append-nil x.replies.taken)) (same_take x.over);
      receives = refl;
      nones = omega arith;
      taken = refl;
    }

-- the parts of a turn

not_both : (b : Bool) → b ≡ true → b ≡ false → ⊥
not_both b p q = (cc)

-- a take that gave nothing took nothing
pub none_taken : (o : Option ℕ) (before after : TakeEnd ℕ) → is_some o ≡ false →
    IfNone o (IsEmpty before after) → after.taken ≡ before.taken
none_taken None before after e empty = empty.taken
none_taken (Some n) before after e empty = elim (not_both true refl e) [ ]

-- a take that gave a number took it
pub some_taken : (follows : List ℕ → ℕ → ℕ → Type 0) (o : Option ℕ) (before after : TakeEnd ℕ) →
    is_some o ≡ true → IfSome o (λ n. TakesNext follows n before after) →
    (n : ℕ) × (after.taken ≡ before.taken ++ n ∷ [])
some_taken follows None before after e next = elim (not_both false e refl) [ ]
some_taken follows (Some n) before after e next = (n, next.taken)

-- the replies that are there, and then one receive
both_parts : (hs rs : List Packet) (x : OscAt) (l' l'' : LinkSeen) (s' s'' : OscSenderOf)
    (r' : TakeEnd Reply) (o' : TakeEnd ℕ) (p : TookReplies [] x (osc_at l' s' r' o')) →
    Receives hs rs l' l'' s' s'' → OscWent hs rs p.told p.told x (osc_at l'' s'' r' o')
both_parts hs rs x l' l'' s' s'' r' o' p q =
    subst (λ ks. OscWent hs rs ks ks x (osc_at l'' s'' r' o')) (append-nil p.told)
    (went_joined [] hs rs p.told [] [] x (osc_at l' s' r' o') (osc_at l'' s'' r' o')
    (all_told x (osc_at l' s' r' o') p) (q r' o'))

no_strange : (hs rs : List Packet) (ts : List Reply) (x y : OscAt) → OscWent hs rs ts ts x y →
    OscWent hs rs ts (ts ++ []) x y
no_strange hs rs ts x y p = subst (λ ks. OscWent hs rs ts ks x y) (sym (append-nil ts)) p

-- a reply had no return address
pub turn_strange : (x y : OscAt) (reply : Reply) → TookReplies (reply ∷ []) x y →
    return_for y.sender.account.tally.accepted reply ≡ None → OscDid x y (ends.Strange reply)
turn_strange x y reply p none =
    let later = p.nones in
    record {
      packets = [];
      unheard = [];
      told = p.told;
      went = p.went;
      left_behind = refl;
      found_none = omega arith;
      has_received = tt;
      cause = (none, p.receives);
      told_end = ap (λ (o : TakeEnd ℕ). o.taken) p.over;
    }

-- the link is at its end
pub turn_at_end : (x : OscAt) (l' l'' : LinkSeen) (s' s'' : OscSenderOf) (r' : TakeEnd Reply)
    (o' : TakeEnd ℕ) → TookReplies [] x (osc_at l' s' r' o') → Receives [] [] l' l'' s' s'' →
    l''.receives ≡ l'.receives → GoesOn x (osc_at l'' s'' r' o')
turn_at_end x l' l'' s' s'' r' o' p q same =
    let later = p.nones in
    record {
      packets = [];
      told = p.told;
      went = both_parts [] [] x l' l'' s' s'' r' o' p q;
      receives = same ∙ p.receives;
      nones = omega arith;
      taken = ap (λ (o : TakeEnd ℕ). o.taken) p.over;
    }

-- a receive failed
pub turn_failed : (x : OscAt) (l' l'' : LinkSeen) (s' s'' : OscSenderOf) (r' : TakeEnd Reply)
    (o' : TakeEnd ℕ) → TookReplies [] x (osc_at l' s' r' o') → Receives [] [] l' l'' s' s'' →
    Rose l'.receives l''.receives → OscDid x (osc_at l'' s'' r' o') ends.LinkFault
turn_failed x l' l'' s' s'' r' o' p q rose =
    let later = p.nones in
    let same = p.receives in
    let risen = rose_later x.link.receives l'.receives l''.receives (omega arith) rose in
    record {
      packets = [];
      unheard = [];
      told = p.told;
      went = no_strange [] [] p.told x (osc_at l'' s'' r' o')
          (both_parts [] [] x l' l'' s' s'' r' o' p q);
      left_behind = refl;
      found_none = omega arith;
      has_received = inr (inr (inr risen));
      cause = risen;
      told_end = ap (λ (o : TakeEnd ℕ). o.taken) p.over;
    }

-- there was no memory to hear a packet
pub turn_no_memory : (x : OscAt) (l' l'' : LinkSeen) (s' s'' : OscSenderOf) (r' : TakeEnd Reply)
    (o' : TakeEnd ℕ) (packet : Packet) → TookReplies [] x (osc_at l' s' r' o') →
    RoseBy 1 x.replies.nones r'.nones → Receives [] (packet ∷ []) l' l'' s' s'' →
    l''.receives ≡ l'.receives → OscDid x (osc_at l'' s'' r' o') ends.Memory
turn_no_memory x l' l'' s' s'' r' o' packet p none q same =
    record {
      packets = [];
      unheard = packet ∷ [];
      told = p.told;
      went = no_strange [] (packet ∷ []) p.told x (osc_at l'' s'' r' o')
          (both_parts [] (packet ∷ []) x l' l'' s' s'' r' o' p q);
      left_behind = (packet, refl);
      found_none = none;
      has_received = inl (omega arith);
      cause = same ∙ p.receives;
      told_end = ap (λ (o : TakeEnd ℕ). o.taken) p.over;
    }

rose_by_few : (n a b : ℕ) → n ≤ 1 → RoseBy 1 a b → a ≤ b → RoseBy n a b
rose_by_few n a b few rose later = omega arith

over_went : (hs rs : List Packet) (ts ks : List Reply) (x y : OscAt) (o : TakeEnd ℕ) →
    SameTakeRing y.over o → OscWent hs rs ts ks x y →
    OscWent hs rs ts ks x (osc_at y.link y.sender y.replies o)
over_went hs rs ts ks x y o same p =
    record {
      loops = p.loops;
      ring = p.ring;
      read = p.read;
      decided = p.decided;
      hears = p.hears;
      same_replies = p.same_replies;
      took = p.took;
      tells = p.tells;
      are_told = p.are_told;
      sending = p.sending;
      receives = p.receives;
      idles = p.idles;
      same_over = same_take_joined x.over y.over o p.same_over same;
    }

-- at most one packet came, and the session isn't over
pub turn_goes : (x : OscAt) (l' l'' : LinkSeen) (s' s'' : OscSenderOf) (r' : TakeEnd Reply)
    (o' o'' : TakeEnd ℕ) → TookReplies [] x (osc_at l' s' r' o') →
    RoseBy 1 x.replies.nones r'.nones → ReceivesOnce l' l'' s' s'' → SameTakeRing o' o'' →
    o''.taken ≡ o'.taken → GoesOn x (osc_at l'' s'' r' o'')
turn_goes x l' l'' s' s'' r' o' o'' p none q same taken =
    record {
      packets = q.packets;
      told = p.told;
      went = over_went q.packets q.packets p.told p.told x (osc_at l'' s'' r' o') o'' same
          (both_parts q.packets q.packets x l' l'' s' s'' r' o' p q.went);
      receives = q.receives ∙ p.receives;
      nones = rose_by_few (length q.packets) x.replies.nones r'.nones q.few none p.nones;
      taken = taken ∙ ap (λ (o : TakeEnd ℕ). o.taken) p.over;
    }

-- the same, and the session is over
pub turn_over : (x : OscAt) (l' l'' : LinkSeen) (s' s'' : OscSenderOf) (r' : TakeEnd Reply)
    (o' o'' : TakeEnd ℕ) → TookReplies [] x (osc_at l' s' r' o') →
    RoseBy 1 x.replies.nones r'.nones → ReceivesOnce l' l'' s' s'' → SameTakeRing o' o'' →
    (n : ℕ) → o''.taken ≡ o'.taken ++ n ∷ [] → OscDid x (osc_at l'' s'' r' o'') ends.Over
turn_over x l' l'' s' s'' r' o' o'' p none q same n taken =
    let all = sym (append-nil q.packets) in
    let went = over_went q.packets q.packets p.told (p.told ++ []) x (osc_at l'' s'' r' o') o'' same
    (no_strange q.packets q.packets p.told x (osc_at l'' s'' r' o')
    (both_parts q.packets q.packets x l' l'' s' s'' r' o' p q.went)) in
    let first = has_received_later x.link l' l'' [] q.packets p.went.receives p.went.idles
    q.has_received in
    record {
      packets = q.packets;
      unheard = [];
      told = p.told;
      went = subst (λ rs. OscWent q.packets rs p.told (p.told ++ []) x (osc_at l'' s'' r' o'')) all
          went;
      left_behind = refl;
      found_none = subst (λ (rs : List Packet). RoseBy (length rs) x.replies.nones r'.nones) all
          (rose_by_few (length q.packets) x.replies.nones r'.nones q.few none p.nones);
      has_received = subst (λ (rs : List Packet). HasReceived rs x.link l'') all first;
      cause = q.receives ∙ p.receives;
      told_end = (n, taken ∙ ap (λ (o : TakeEnd ℕ). o.taken ++ n ∷ []) p.over);
    }

-- to take replies changes nothing of the link's end
pub still_ended : (x y : OscAt) → TookReplies [] x y → x.link.ended ≡ true → y.link.ended ≡ true
still_ended x y p ended = p.ended ∙ ended

-- only replies are left, and the session isn't over
pub replies_go : (x : OscAt) (l' : LinkSeen) (s' : OscSenderOf) (r' : TakeEnd Reply)
    (o' o'' : TakeEnd ℕ) → TookReplies [] x (osc_at l' s' r' o') → SameTakeRing o' o'' →
    o''.taken ≡ o'.taken → GoesOn x (osc_at l' s' r' o'')
replies_go x l' s' r' o' o'' p same taken =
    let later = p.nones in
    record {
      packets = [];
      told = p.told;
      went = over_went [] [] p.told p.told x (osc_at l' s' r' o') o'' same
          (all_told x (osc_at l' s' r' o') p);
      receives = p.receives;
      nones = omega arith;
      taken = taken ∙ ap (λ (o : TakeEnd ℕ). o.taken) p.over;
    }

-- the same, and the session is over
pub replies_over : (x : OscAt) (l' : LinkSeen) (s' : OscSenderOf) (r' : TakeEnd Reply)
    (o' o'' : TakeEnd ℕ) → TookReplies [] x (osc_at l' s' r' o') → x.link.ended ≡ true →
    SameTakeRing o' o'' → (n : ℕ) → o''.taken ≡ o'.taken ++ n ∷ [] →
    OscDid x (osc_at l' s' r' o'') ends.Over
replies_over x l' s' r' o' o'' p ended same n taken =
    let later = p.nones in
    record {
      packets = [];
      unheard = [];
      told = p.told;
      went = over_went [] [] p.told (p.told ++ []) x (osc_at l' s' r' o') o'' same p.went;
      left_behind = refl;
      found_none = omega arith;
      has_received = inr (inl (p.ended ∙ ended));
      cause = p.receives;
      told_end = (n, taken ∙ ap (λ (o : TakeEnd ℕ). o.taken ++ n ∷ []) p.over);
    }
