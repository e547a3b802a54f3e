-- Replies told one after another.
use Rattle.std.proofs.Common.{◌≡◌, ℕ, Bool, true, false, List, [], ◌∷◌, ◌++◌, Option, Some, None, is_some, refl, sym, ap, ◌∙◌, subst, append_assoc, append-nil}
use Rattle.std.specs.Prelude.{IsTrue}
use Rattle.std.specs.List.{AllByRecursion}
use Rattle.sl_commands.specs.declared.Reply.{Reply}
use Rattle.osc_paths.specs.declared.request.ReturnTo.{ReturnTo}
use Rattle.live_ports.specs.Links.{Packet, LinkSeen, SameReceiving}
use Rattle.senders.specs.declared.accepted.Accepted.{Accepted}
use Rattle.senders.specs.declared.account.Account.{Account}
use Rattle.senders.specs.Tallies.{TallyOf}
use Rattle.reply_sending.specs.Answers.{return_for, reply_packet, AreTold}
use Rattle.reply_sending.specs.Sending.{Post, post, Sending}
use Rattle.reply_sending.proofs.SendingLemmas.{sending_joined, sending_none, sending_reply}
use Rattle.live_session.specs.Whole.{HasReturn}
use Rattle.live_core.specs.Telling.{PostedTo, packet_to, packets_for, TellsMore}

same_receiving : (a : LinkSeen) → SameReceiving a a
same_receiving a = record { left = refl; receives = refl; idles = refl; ended = refl }

then_receiving : (a b c : LinkSeen) → SameReceiving a b → SameReceiving b c → SameReceiving a c
then_receiving a b c x y =
    record {
      left = y.left ∙ x.left;
      receives = y.receives ∙ x.receives;
      idles = y.idles ∙ x.idles;
      ended = y.ended ∙ x.ended;
    }

pub tells_none : (a : LinkSeen) (x : Account) → TellsMore [] a a x x
tells_none a x =
    record {
      receiving = same_receiving a;
      tally = refl;
      sending = sending_none (post a x.unsent) (post a x.unsent) refl;
    }

packets-append : (accepted : List Accepted) (first next : List Reply) →
    packets_for accepted (first ++ next) ≡ packets_for accepted first ++ packets_for accepted next
packets-append accepted [] next = refl
packets-append accepted (r ∷ first) next =
    ap (λ l. packet_to (return_for accepted r) r ++ l) (packets-append accepted first next)
    ∙ sym (append_assoc (packet_to (return_for accepted r) r) (packets_for accepted first)
    (packets_for accepted next))

pub tells_then : (a b c : LinkSeen) (x y z : Account) (first next : List Reply) →
    TellsMore first a b x y → TellsMore next b c y z → TellsMore (first ++ next) a c x z
tells_then a b c x y z first next f g =
    let accepted = x.tally.accepted in
    record {
      receiving = then_receiving a b c f.receiving g.receiving;
      tally = g.tally ∙ f.tally;
      sending = subst (λ (ps : List Packet). Sending ps [] (post a x.unsent) (post c z.unsent))
          (sym (packets-append accepted first next))
          (sending_joined (packets_for accepted first) (packets_for accepted next) [] []
          (post a x.unsent) (post b y.unsent) (post c z.unsent) f.sending
          (subst (λ (t : TallyOf). Sending (packets_for t.accepted next) [] (post b y.unsent)
          (post c z.unsent)) f.tally g.sending));
    }

-- one reply with an address, and one without
pub tells_one : (a b : LinkSeen) (x y : Account) (r : Reply) (to : ReturnTo) →
    return_for x.tally.accepted r ≡ Some to → y.tally ≡ x.tally →
    PostedTo (reply_packet r to) a b x.unsent y.unsent → TellsMore (r ∷ []) a b x y
tells_one a b x y r to is same posted =
    record {
      receiving = posted.receiving;
      tally = same;
      sending = subst (λ (o : Option ReturnTo). Sending (packet_to o r ++ []) [] (post a x.unsent)
          (post b y.unsent)) (sym is)
          (sending_reply posted.was_sent (reply_packet r to) (post a x.unsent) (post b y.unsent)
          posted.out posted.sends posted.count);
    }

pub tells_nowhere : (a : LinkSeen) (x : Account) (r : Reply) →
    return_for x.tally.accepted r ≡ None → TellsMore (r ∷ []) a a x x
tells_nowhere a x r is =
    record {
      receiving = same_receiving a;
      tally = refl;
      sending = subst (λ (o : Option ReturnTo). Sending (packet_to o r ++ []) [] (post a x.unsent)
          (post a x.unsent)) (sym is)
          (sending_none (post a x.unsent) (post a x.unsent) refl);
    }

-- where each has an address, all are told
told_first : (accepted : List Accepted) (r : Reply) (rs : List Reply) (o : Option ReturnTo) →
    return_for accepted r ≡ o → is_some o ≡ true → AreTold accepted rs (packets_for accepted rs) →
    AreTold accepted (r ∷ rs) (packet_to o r ++ packets_for accepted rs)
told_first accepted r rs None is some rest = absurd (cc)
told_first accepted r rs (Some to) is some rest =
    (to, packets_for accepted rs, is, refl, rest)

pub all_told : (accepted : List Accepted) (rs : List Reply) →
    AllByRecursion (HasReturn accepted) rs → AreTold accepted rs (packets_for accepted rs)
all_told accepted [] all = refl
all_told accepted (r ∷ rs) all =
    told_first accepted r rs (return_for accepted r) refl all.0 (all_told accepted rs all.1)
