-- Replies are told over a link, one after another, each to its return address by the accepted
-- commands; one without an address goes nowhere. A packet whose send failed is left out and
-- counted.
-- "Settling" in docs/rules.md.
use Rattle.std.specs.Prelude.{◌≡◌, ℕ, Bool, not, List, [], ◌∷◌, ◌++◌, Option, Some, None}
use Rattle.sl_base.specs.Counting.{Counts}
use Rattle.sl_commands.specs.declared.Reply.{Reply}
use Rattle.osc_paths.specs.declared.request.ReturnTo.{ReturnTo}
use Rattle.live_ports.specs.Links.{Packet, LinkSeen, SameReceiving, Adds, sent_if}
use Rattle.senders.specs.declared.accepted.Accepted.{Accepted}
use Rattle.senders.specs.declared.account.Account.{Account}
use Rattle.reply_sending.specs.Answers.{return_for, reply_packet}
use Rattle.reply_sending.specs.Sending.{one_unless, raised_by, post, Sending}

-- a packet was sent, or counted as not sent
pub record PostedTo (p : Packet) (link link' : LinkSeen) (unsent unsent' : ℕ) : Type 0 where
  pub was_sent : Bool
  pub receiving : SameReceiving link link'
  pub out : Adds link.out (sent_if was_sent p) link'.out
  pub sends : Counts link.sends link'.sends (not was_sent)
  pub count : unsent' ≡ raised_by (one_unless was_sent) unsent

-- the packet of a reply, where it has an address
abbrev pub packet_to : Option ReturnTo → Reply → List Packet
packet_to None r = []
packet_to (Some to) r = reply_packet r to ∷ []

-- the packets of replies, in order
abbrev pub packets_for : List Accepted → List Reply → List Packet
packets_for accepted [] = []
packets_for accepted (r ∷ rs) = packet_to (return_for accepted r) r ++ packets_for accepted rs

-- these replies were told, and nothing was received
pub record TellsMore (more : List Reply) (link link' : LinkSeen) (x x' : Account) : Type 0 where
  pub receiving : SameReceiving link link'
  pub tally : x'.tally ≡ x.tally
  pub sending : Sending (packets_for x.tally.accepted more) [] (post link x.unsent)
      (post link' x'.unsent)
