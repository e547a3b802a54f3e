-- Serving OSC takes replies until a take finds none, sends each to its return address, receives a
-- packet, has the sender hear it and answers its pings; and so on. It receives at least once before
-- it looks for the end of the session. Behind the link's end it receives no more, and goes on with
-- replies. It ends where the session's end was told, by a number that is taken; with a receive that
-- failed, and then its count rose; where there was no memory to hear a packet, which is then
-- received and not heard; or with a reply that has no return address, which is then taken and not
-- told.
-- "Serving" in docs/rules.md.
use Rattle.std.specs.Prelude.{◌≡◌, ◌≤◌, ◌⊎◌, ⊤, ℕ, true, List, [], ◌∷◌, ◌++◌, length, flat_map, None}
use Rattle.sl_base.specs.Counting.{Rose, RoseBy}
use Rattle.sl_commands.specs.declared.reply.Reply.{Reply}
use Rattle.event_rings.specs.Ends.{TakeEnd, SamePutRing, SameTakeRing}
use Rattle.live_ports.specs.Sources.{Consumes}
use Rattle.live_ports.specs.Links.{Packet, LinkSeen}
use Rattle.senders.specs.declared.accepted.Accepted.{Accepted}
use Rattle.senders.specs.declared.decision.Decision.{Decision}
use Rattle.senders.specs.Hearing.{Input, Hears, packet_inputs}
use Rattle.senders.specs.Senders.{OscSenderOf}
use Rattle.reply_sending.specs.Answers.{return_for, AreTold, pongs_for}
use Rattle.reply_sending.specs.Sending.{Post, post, Sending}
use Rattle.osc_serving.specs.declared.serving.OscEnd.{OscEnd}
use Rattle.osc_serving.specs.declared.serving.OscEnd.TheVariants.{Over, LinkFault, Memory, Strange}

-- what packets are heard as, where there are so many loops
abbrev pub heard_in : ℕ → Packet → List Input
heard_in loops p = packet_inputs loops p.addr p.bytes

abbrev pub inputs_of : ℕ → List Packet → List Input
inputs_of loops packets = flat_map (heard_in loops) packets

-- what the activity owns: the link and its sender, and its ends of the rings of replies and of the
-- session's end
pub record OscAt : Type 0 where
  pub link : LinkSeen
  pub sender : OscSenderOf
  pub replies : TakeEnd Reply
  pub over : TakeEnd ℕ

abbrev pub osc_at : LinkSeen → OscSenderOf → TakeEnd Reply → TakeEnd ℕ → OscAt
osc_at link sender replies over =
    record { link = link; sender = sender; replies = replies; over = over }

-- what was sent, and what wasn't
abbrev pub posted : OscAt → Post
posted x = post x.link x.sender.account.unsent

-- these packets were received, and those of the first list heard; these replies were taken, and
-- those of the first list told; what was sent tells these replies and answers the pings
pub record OscWent (heard received : List Packet) (told taken : List Reply)
    (x y : OscAt) : Type 0 where
  pub loops : y.sender.loops ≡ x.sender.loops
  pub ring : SamePutRing x.sender.ring y.sender.ring
  pub read : Consumes x.link.left received y.link.left
  pub decided : List Decision
  pub hears : Hears x.sender.ring.capacity (inputs_of x.sender.loops heard)
      x.sender.account.tally y.sender.account.tally decided
  pub same_replies : SameTakeRing x.replies y.replies
  pub took : y.replies.taken ≡ x.replies.taken ++ taken
  pub tells : List Packet
  pub are_told : AreTold y.sender.account.tally.accepted told tells
  pub sending : Sending tells (pongs_for x.sender.loops (inputs_of x.sender.loops heard))
      (posted x) (posted y)
  pub receives : x.link.receives ≤ y.link.receives
  pub idles : x.link.idles ≤ y.link.idles
  pub same_over : SameTakeRing x.over y.over

-- a packet was received, or a receive gave nothing for now or failed, or the link is at its end
abbrev pub HasReceived : List Packet → LinkSeen → LinkSeen → Type 0
HasReceived received link link' = (1 ≤ length received) ⊎ ((link'.ended ≡ true)
    ⊎ (Rose link.idles link'.idles ⊎ Rose link.receives link'.receives))

-- the same, where serving didn't end with a reply before it
abbrev pub ReceivesFirst : OscEnd → List Packet → LinkSeen → LinkSeen → Type 0
ReceivesFirst Over received link link' = HasReceived received link link'
ReceivesFirst LinkFault received link link' = HasReceived received link link'
ReceivesFirst Memory received link link' = HasReceived received link link'
ReceivesFirst (Strange reply) received link link' = ⊤

-- the packet that was received and not heard: one where there was no memory, else none
abbrev pub IsLeftBehind : OscEnd → List Packet → Type 0
IsLeftBehind Over unheard = unheard ≡ []
IsLeftBehind LinkFault unheard = unheard ≡ []
IsLeftBehind Memory unheard = (packet : Packet) × (unheard ≡ packet ∷ [])
IsLeftBehind (Strange reply) unheard = unheard ≡ []

-- the reply that was taken and not told
abbrev pub strange_in : OscEnd → List Reply
strange_in Over = []
strange_in LinkFault = []
strange_in Memory = []
strange_in (Strange reply) = reply ∷ []

-- why serving ended: with what was accepted in the end, a reply without an address; or a receive
-- that failed, and none did before
abbrev pub OscCause : List Accepted → LinkSeen → LinkSeen → OscEnd → Type 0
OscCause accepted link link' Over = link'.receives ≡ link.receives
OscCause accepted link link' LinkFault = Rose link.receives link'.receives
OscCause accepted link link' Memory = link'.receives ≡ link.receives
OscCause accepted link link' (Strange reply) = (return_for accepted reply ≡ None)
    × (link'.receives ≡ link.receives)

-- what was taken of the session's end: its number where that is why serving ended, else nothing
abbrev pub TookEnd : TakeEnd ℕ → TakeEnd ℕ → OscEnd → Type 0
TookEnd over over' Over = (frames : ℕ) × (over'.taken ≡ over.taken ++ frames ∷ [])
TookEnd over over' LinkFault = over'.taken ≡ over.taken
TookEnd over over' Memory = over'.taken ≡ over.taken
TookEnd over over' (Strange reply) = over'.taken ≡ over.taken

-- what serving OSC did: each receive came behind a take that found no reply
pub record OscDid (x y : OscAt) (ended : OscEnd) : Type 0 where
  pub packets : List Packet
  pub unheard : List Packet
  pub told : List Reply
  pub went : OscWent packets (packets ++ unheard) told (told ++ strange_in ended) x y
  pub left_behind : IsLeftBehind ended unheard
  pub found_none : RoseBy (length (packets ++ unheard)) x.replies.nones y.replies.nones
  pub has_received : ReceivesFirst ended (packets ++ unheard) x.link y.link
  pub cause : OscCause y.sender.account.tally.accepted x.link y.link ended
  pub told_end : TookEnd x.over y.over ended
