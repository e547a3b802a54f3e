-- The activity of OSC goes on from what it was given to what it gives back: packets were received
-- and heard, the pings among them were answered, and the replies that it took were told, each to
-- its return address. One packet more was received and not heard only where there was no memory for
-- it. It may have ended with a reply that has no return address. Else it asked at least once: a
-- packet came, or a receive failed or gave nothing for now, or the link is at its end.
-- "The activities of a session" in docs/rules.md.
use Rattle.std.specs.Prelude.{◌≡◌, ◌≤◌, ℕ, Bool, false, List, [], ◌++◌, length, flat_map, Option, None, IfSome, option_to_list}
use Rattle.sl_commands.specs.declared.Reply.{Reply}
use Rattle.event_rings.specs.Ends.{TakeEnd, SamePutRing, SameTakeRing}
use Rattle.senders.specs.declared.decision.Decision.{Decision}
use Rattle.senders.specs.Hearing.{Input, Hears, packet_inputs}
use Rattle.senders.specs.Senders.{OscSenderOf}
use Rattle.live_ports.specs.Links.{Packet, LinkSeen, SameReceiving}
use Rattle.live_ports.specs.Sources.{Consumes}
use Rattle.reply_sending.specs.Answers.{return_for, AreTold, pongs_for}
use Rattle.reply_sending.specs.Sending.{Post, post, Sending}
use Rattle.live_session.specs.Asking.{HasAsked}

-- what the activity owns: the sender with its ring, its end of the replies, and the link
pub record OscAt : Type 0 where
  pub sender : OscSenderOf
  pub replies : TakeEnd Reply
  pub link : LinkSeen

-- what a packet is heard as, where there are so many loops
abbrev pub heard_in : ℕ → Packet → List Input
heard_in loops p = packet_inputs loops p.addr p.bytes

-- the answers to the pings in these packets
abbrev pub pongs_in : ℕ → List Packet → List Packet
pongs_in loops packets = pongs_for loops (flat_map (heard_in loops) packets)

-- what was sent, and what wasn't
abbrev pub posted : OscAt → Post
posted x = post x.link x.sender.account.unsent

-- these packets were received and heard, and then those were received and not heard
pub record HeardPackets (x y : OscAt) (heard unheard : List Packet) : Type 0 where
  pub received : Consumes x.link.left (heard ++ unheard) y.link.left
  pub decided : List Decision
  pub hears : Hears x.sender.ring.capacity (flat_map (heard_in x.sender.loops) heard)
      x.sender.account.tally y.sender.account.tally decided

-- what it did, and whether it ended for want of memory
pub record OscRan (x y : OscAt) (memory : Bool) : Type 0 where
  pub loops : y.sender.loops ≡ x.sender.loops
  pub ring : SamePutRing x.sender.ring y.sender.ring
  pub heard : List Packet
  pub unheard : List Packet
  pub packets : HeardPackets x y heard unheard
  pub few : length unheard ≤ 1
  pub all : memory ≡ false → unheard ≡ []
  pub replies : SameTakeRing x.replies y.replies
  pub told : List Reply
  pub tells : List Packet
  pub are_told : AreTold y.sender.account.tally.accepted told tells
  pub sending : Sending tells (pongs_in x.sender.loops heard) (posted x) (posted y)
  pub strange : Option Reply
  pub took : y.replies.taken ≡ x.replies.taken ++ (told ++ option_to_list strange)
  pub unasked : IfSome strange (λ r. return_for y.sender.account.tally.accepted r ≡ None)
  pub asked : strange ≡ None → HasAsked (heard ++ unheard) y.link.ended x.link.idles y.link.idles
      x.link.receives y.link.receives

-- more replies were told, and nothing was heard
pub record ToldMore (more : List Reply) (x y : OscAt) : Type 0 where
  pub receiving : SameReceiving x.link y.link
  pub tally : y.sender.account.tally ≡ x.sender.account.tally
  pub tells : List Packet
  pub are_told : AreTold x.sender.account.tally.accepted more tells
  pub sending : Sending tells [] (posted x) (posted y)
