-- What serving OSC did is what the activity of OSC promises.
use Rattle.std.proofs.Common.{◌≡◌, ◌≤◌, false, List, [], ◌∷◌, ◌++◌, length, Option, Some, None, refl, sym, ap, ◌∙◌, subst, arith}
use Rattle.std.specs.Prelude.{IfSome, option_to_list}
use Rattle.sl_commands.specs.declared.reply.Reply.{Reply}
use Rattle.live_ports.specs.Links.{Packet, LinkSeen}
use Rattle.senders.specs.declared.accepted.Accepted.{Accepted}
use Rattle.reply_sending.specs.Answers.{return_for}
use Rattle.osc_serving.specs.declared.serving.OscEnd.{OscEnd}
use Rattle.osc_serving.specs.declared.serving.OscEnd.TheVariants as ends
use Rattle.osc_serving.specs.Serving.{OscAt, ReceivesFirst, IsLeftBehind, strange_in, OscCause, OscDid}
use Rattle.live_session.specs.Asking.{HasAsked}
use Rattle.live_session.specs.Osc.{OscRan}
use Rattle.live_joining.specs.Parts.{osc_at}
use Rattle.live_joining.specs.Causes.{lacked_memory, LinkCause}
use Rattle.live_activities.specs.Ends.{told_as}

strange_of : OscEnd → Option Reply
strange_of ends.Over = None
strange_of ends.LinkFault = None
strange_of ends.Memory = None
strange_of (ends.Strange reply) = Some reply

strange_is : (e : OscEnd) → strange_in e ≡ option_to_list (strange_of e)
unfolding strange_of
strange_is ends.Over = refl
strange_is ends.LinkFault = refl
strange_is ends.Memory = refl
strange_is (ends.Strange reply) = refl

none_is_few : (xs : List Packet) → xs ≡ [] → length xs ≤ 1
none_is_few xs none = subst (λ (l : List Packet). length l ≤ 1) (sym none) (omega arith)

one_is_few : (xs : List Packet) (p : Packet) → xs ≡ p ∷ [] → length xs ≤ 1
one_is_few xs p one = subst (λ (l : List Packet). length l ≤ 1) (sym one) (omega arith)

few_behind : (e : OscEnd) (unheard : List Packet) → IsLeftBehind e unheard → length unheard ≤ 1
few_behind ends.Over unheard left = none_is_few unheard left
few_behind ends.LinkFault unheard left = none_is_few unheard left
few_behind ends.Memory unheard left = one_is_few unheard left.0 left.1
few_behind (ends.Strange reply) unheard left = none_is_few unheard left

all_heard : (e : OscEnd) (unheard : List Packet) → IsLeftBehind e unheard →
    lacked_memory (told_as e) ≡ false → unheard ≡ []
all_heard ends.Over unheard left ample = left
all_heard ends.LinkFault unheard left ample = left
all_heard ends.Memory unheard left ample = absurd (cc)
all_heard (ends.Strange reply) unheard left ample = left

none_asked : (accepted : List Accepted) (l l' : LinkSeen) (e : OscEnd) →
    OscCause accepted l l' e → IfSome (strange_of e) (λ r. return_for accepted r ≡ None)
unfolding strange_of
none_asked accepted l l' ends.Over cause = tt
none_asked accepted l l' ends.LinkFault cause = tt
none_asked accepted l l' ends.Memory cause = tt
none_asked accepted l l' (ends.Strange reply) cause = cause.0

has_asked : (e : OscEnd) (came : List Packet) (l l' : LinkSeen) → ReceivesFirst e came l l' →
    strange_of e ≡ None → HasAsked came l'.ended l.idles l'.idles l.receives l'.receives
unfolding strange_of
has_asked ends.Over came l l' has none = has
has_asked ends.LinkFault came l l' has none = has
has_asked ends.Memory came l l' has none = has
has_asked (ends.Strange reply) came l l' has none = absurd (cc)

-- the promise of the activity
pub osc_ran : (x y : OscAt) (e : OscEnd) → OscDid x y e →
    OscRan (osc_at x.link x.sender x.replies) (osc_at y.link y.sender y.replies)
    (lacked_memory (told_as e))
osc_ran x y e did =
    record {
      loops = did.went.loops;
      ring = did.went.ring;
      heard = did.packets;
      unheard = did.unheard;
      packets = record {
        received = did.went.read;
        decided = did.went.decided;
        hears = did.went.hears;
      };
      few = few_behind e did.unheard did.left_behind;
      all = all_heard e did.unheard did.left_behind;
      replies = did.went.same_replies;
      told = did.told;
      tells = did.went.tells;
      are_told = did.went.are_told;
      sending = did.went.sending;
      strange = strange_of e;
      took = did.went.took
          ∙ ap (λ (l : List Reply). x.replies.taken ++ (did.told ++ l)) (strange_is e);
      unasked = none_asked y.sender.account.tally.accepted x.link y.link e did.cause;
      asked = has_asked e (did.packets ++ did.unheard) x.link y.link did.has_received;
    }

cause_of : (accepted : List Accepted) (l l' : LinkSeen) (e : OscEnd) →
    OscCause accepted l l' e → LinkCause l l' (told_as e)
cause_of accepted l l' ends.Over cause = cause
cause_of accepted l l' ends.LinkFault cause = cause
cause_of accepted l l' ends.Memory cause = cause
cause_of accepted l l' (ends.Strange reply) cause = cause.1

-- and its cause
pub link_cause : (x y : OscAt) (e : OscEnd) → OscDid x y e → LinkCause x.link y.link (told_as e)
link_cause x y e did = cause_of y.sender.account.tally.accepted x.link y.link e did.cause
