-- One packet is sent, or counted as not sent where its send failed. Nothing else of link and sender
-- changes.
-- "Serving" in docs/rules.md.
use Rattle.std.specs.Prelude.{◌≡◌, ℕ, Bool, true, false, not, List, [], Some, None}
use Rattle.sl_base.specs.Counting.{Counts}
use Rattle.sl_commands.specs.declared.reply.Reply.{Reply}
use Rattle.osc_paths.specs.declared.request.ReturnTo.{ReturnTo}
use Rattle.live_ports.specs.Links.{Packet, LinkSeen, SameReceiving, Adds, sent_if}
use Rattle.senders.specs.declared.decision.Decision.{Decision}
use Rattle.senders.specs.Senders.{OscSenderOf}
use Rattle.reply_sending.specs.Answers.{return_for, reply_packet, pongs_after}
use Rattle.reply_sending.specs.Sending.{one_unless, raised_by, post, Sending}

-- only the count of answers that weren't sent is another
abbrev pub with_unsent : ℕ → OscSenderOf → OscSenderOf
with_unsent n s = record s { account = record s.account { unsent = n } }

-- the packet was sent, or the count of answers that weren't was raised
pub record Posted (p : Packet) (link link' : LinkSeen) (s s' : OscSenderOf) : Type 0 where
  pub was_sent : Bool
  pub receiving : SameReceiving link link'
  pub out : Adds link.out (sent_if was_sent p) link'.out
  pub sends : Counts link.sends link'.sends (not was_sent)
  pub sender : s' ≡ with_unsent (raised_by (one_unless was_sent) s.account.unsent) s

-- a reply was posted to its return address, or it has none and nothing was done
abbrev pub PostedReply : Reply → LinkSeen → LinkSeen → OscSenderOf → OscSenderOf → Bool → Type 0
PostedReply r link link' s s' true = (to : ReturnTo)
    × (return_for s.account.tally.accepted r ≡ Some to)
    × Posted (reply_packet r to) link link' s s'
PostedReply r link link' s s' false = (return_for s.account.tally.accepted r ≡ None)
    × (link' ≡ link) × (s' ≡ s)

-- the answers to the pings among these decisions were sent, but for those counted
pub record PostedPongs (decided : List Decision) (link link' : LinkSeen)
    (s s' : OscSenderOf) : Type 0 where
  pub receiving : SameReceiving link link'
  pub sender : s' ≡ with_unsent s'.account.unsent s
  pub sending : Sending [] (pongs_after s.loops decided) (post link s.account.unsent)
      (post link' s'.account.unsent)
