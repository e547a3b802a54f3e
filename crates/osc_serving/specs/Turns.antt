-- The parts of a turn of serving OSC: the replies that are there are taken and sent; then once a
-- packet is received, heard, and its pings are answered. Turns go on from what was to what is.
-- "Serving" in docs/rules.md.
use Rattle.std.specs.Prelude.{◌≡◌, ◌≤◌, ℕ, true, List, [], ◌∷◌, ◌++◌, length, Option, Some, None}
use Rattle.sl_base.specs.Counting.{Rose, RoseBy}
use Rattle.sl_commands.specs.declared.reply.Reply.{Reply}
use Rattle.event_rings.specs.Ends.{TakeEnd}
use Rattle.live_ports.specs.Links.{Packet, LinkSeen}
use Rattle.senders.specs.Senders.{OscSenderOf}
use Rattle.reply_sending.specs.Answers.{return_for}
use Rattle.osc_serving.specs.declared.receiving.Received.{Received}
use Rattle.osc_serving.specs.declared.receiving.Received.TheVariants.{Once, AtEnd, Failed, NoMemory}
use Rattle.osc_serving.specs.declared.serving.OscEnd.{OscEnd}
use Rattle.osc_serving.specs.declared.turns.Turn.{Turn}
use Rattle.osc_serving.specs.declared.turns.Turn.TheVariants.{Goes, Waits, Ends}
use Rattle.osc_serving.specs.Serving.{OscAt, osc_at, OscWent, HasReceived, OscDid}

-- replies were taken, and all but these told; link and session's end are as they were
pub record TookReplies (strange : List Reply) (x y : OscAt) : Type 0 where
  pub told : List Reply
  pub went : OscWent [] [] told (told ++ strange) x y
  pub receives : y.link.receives ≡ x.link.receives
  pub ended : y.link.ended ≡ x.link.ended
  pub nones : x.replies.nones ≤ y.replies.nones
  pub over : y.over ≡ x.over

-- all were told and a take found none, or the last has no return address
abbrev pub TookAll : OscAt → OscAt → Option Reply → Type 0
TookAll x y None = TookReplies [] x y × RoseBy 1 x.replies.nones y.replies.nones
TookAll x y (Some reply) = TookReplies (reply ∷ []) x y
    × (return_for y.sender.account.tally.accepted reply ≡ None)

-- these packets were received and the first list heard, whatever the rings are
abbrev pub Receives : List Packet → List Packet → LinkSeen → LinkSeen → OscSenderOf →
    OscSenderOf → Type 0
Receives heard received link link' s s' = (replies : TakeEnd Reply) (over : TakeEnd ℕ) →
    OscWent heard received [] [] (osc_at link s replies over) (osc_at link' s' replies over)

-- at most one packet came, and was heard
pub record ReceivesOnce (link link' : LinkSeen) (s s' : OscSenderOf) : Type 0 where
  pub packets : List Packet
  pub went : Receives packets packets link link' s s'
  pub few : length packets ≤ 1
  pub has_received : HasReceived packets link link'
  pub receives : link'.receives ≡ link.receives

-- what came of one receive
abbrev pub DidReceiveOnce : LinkSeen → LinkSeen → OscSenderOf → OscSenderOf → Received → Type 0
DidReceiveOnce link link' s s' Once = ReceivesOnce link link' s s'
DidReceiveOnce link link' s s' AtEnd = Receives [] [] link link' s s'
    × (link'.receives ≡ link.receives) × (link'.ended ≡ true)
DidReceiveOnce link link' s s' Failed = Receives [] [] link link' s s'
    × Rose link.receives link'.receives
DidReceiveOnce link link' s s' NoMemory = (packet : Packet)
    × Receives [] (packet ∷ []) link link' s s' × (link'.receives ≡ link.receives)

-- serving went on, without an end
pub record GoesOn (x y : OscAt) : Type 0 where
  pub packets : List Packet
  pub told : List Reply
  pub went : OscWent packets packets told told x y
  pub receives : y.link.receives ≡ x.link.receives
  pub nones : RoseBy (length packets) x.replies.nones y.replies.nones
  pub taken : y.over.taken ≡ x.over.taken

-- serving went on to the link's end, or has ended
abbrev pub DidAll : OscAt → OscAt → Option OscEnd → Type 0
DidAll x y None = GoesOn x y × (y.link.ended ≡ true)
DidAll x y (Some ended) = OscDid x y ended

-- what a turn did: serving goes on, comes to the link's end, or has ended
abbrev pub DidTurn : OscAt → OscAt → Turn → Type 0
DidTurn x y Goes = GoesOn x y
DidTurn x y Waits = DidAll x y None
DidTurn x y (Ends ended) = DidAll x y (Some ended)
