-- Answers to pings, one by one.
use Rattle.std.proofs.Common.{◌≡◌, ◌<◌, ℕ, ◌+◌, List, [], ◌∷◌, ◌++◌, length, take, get_or, refl, sym, ap, ◌∙◌, subst}
use Rattle.std.proofs.Math.Seq.{take-add, drop-cons}
use Rattle.live_ports.specs.Links.{Packet, LinkSeen, SameReceiving}
use Rattle.senders.specs.declared.decision.Decision.{Decision}
use Rattle.senders.specs.Senders.{OscSenderOf}
use Rattle.reply_sending.specs.Answers.{pongs_after}
use Rattle.reply_sending.specs.Sending.{post, Sending}
use Rattle.reply_sending.specs.Posting.{with_unsent, Posted, PostedPongs}
use Rattle.reply_sending.proofs.SendingLemmas.{sending_joined, sending_none, sending_pong}
use Rattle.reply_sending.proofs.ToldLemmas.{pongs_after-append}

pub same_receiving : (l : LinkSeen) → SameReceiving l l
same_receiving l = record { left = refl; receives = refl; idles = refl; ended = refl }

pub receiving_joined : (l l' l'' : LinkSeen) → SameReceiving l l' → SameReceiving l' l'' →
    SameReceiving l l''
receiving_joined l l' l'' x y =
    record {
      left = y.left ∙ x.left;
      receives = y.receives ∙ x.receives;
      idles = y.idles ∙ x.idles;
      ended = y.ended ∙ x.ended;
    }

-- no ping is answered
pub pongs_none : (ds : List Decision) (l : LinkSeen) (s : OscSenderOf) →
    pongs_after s.loops ds ≡ [] → PostedPongs ds l l s s
pongs_none ds l s none =
    record {
      receiving = same_receiving l;
      sender = refl;
      sending = subst (λ k. Sending [] k (post l s.account.unsent) (post l s.account.unsent))
          (sym none) (sending_none (post l s.account.unsent) (post l s.account.unsent) refl);
    }

-- one is
pub pongs_one : (ds : List Decision) (p : Packet) (l l' : LinkSeen) (s s' : OscSenderOf) →
    pongs_after s.loops ds ≡ p ∷ [] → Posted p l l' s s' → PostedPongs ds l l' s s'
pongs_one ds p l l' s s' one x =
    let unsent = ap (λ (z : OscSenderOf). z.account.unsent) x.sender in
    record {
      receiving = x.receiving;
      sender = x.sender ∙ ap (λ n. with_unsent n s) (sym unsent);
      sending = subst (λ k. Sending [] k (post l s.account.unsent) (post l' s'.account.unsent))
          (sym one) (sending_pong x.was_sent p (post l s.account.unsent)
          (post l' s'.account.unsent) x.out x.sends unsent);
    }

-- answers behind others
pub pongs_joined : (ds es : List Decision) (l l' l'' : LinkSeen) (s s' s'' : OscSenderOf) →
    PostedPongs ds l l' s s' → PostedPongs es l' l'' s' s'' → PostedPongs (ds ++ es) l l'' s s''
pongs_joined ds es l l' l'' s s' s'' x y =
    let loops : s'.loops ≡ s.loops = ap (λ (z : OscSenderOf). z.loops) x.sender in
    let more = subst (λ k. Sending [] (pongs_after k es) (post l' s'.account.unsent)
    (post l'' s''.account.unsent)) loops y.sending in
    record {
      receiving = receiving_joined l l' l'' x.receiving y.receiving;
      sender = y.sender
          ∙ ap (λ (z : OscSenderOf). with_unsent s''.account.unsent z) x.sender;
      sending = subst (λ k. Sending [] k (post l s.account.unsent) (post l'' s''.account.unsent))
          (sym (pongs_after-append s.loops ds es))
          (sending_joined [] [] (pongs_after s.loops ds) (pongs_after s.loops es)
          (post l s.account.unsent) (post l' s'.account.unsent) (post l'' s''.account.unsent)
          x.sending more);
    }

-- one more of the list
pub take_next : (xs : List Decision) (i : ℕ) (d : Decision) → i < length xs →
    d ≡ get_or xs i d → take (i + 1) xs ≡ take i xs ++ d ∷ []
take_next xs i d inside is =
    take-add i 1 xs ∙ ap (λ l. take i xs ++ take 1 l) (drop-cons xs i d inside)
    ∙ ap (λ (y : Decision). take i xs ++ y ∷ []) (sym is)
