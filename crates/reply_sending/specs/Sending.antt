-- Replies and answers to pings are sent one after another, each kind in its own order. A packet
-- whose send failed is left out and counted, and nothing else is: so the packets sent are a merge
-- of both kinds but for those that were counted, and the link's count of sends rose by at least as
-- many.
-- "Serving" in docs/rules.md.
use Rattle.std.specs.Prelude.{◌≡◌, ℕ, ◌+◌, min, max, Bool, true, false, List, [], ◌∷◌, Option}
use Rattle.sl_base.specs.Counting.{last_count, RoseBy}
use Rattle.live_ports.specs.Links.{Packet, Adds, LinkSeen}

-- a packet for the link: whether it tells a reply or answers a ping, and whether it was sent
pub record Event : Type 0 where
  pub tells_reply : Bool
  pub was_sent : Bool
  pub packet : Packet

abbrev pub event : Bool → Bool → Packet → Event
event tells_reply was_sent packet =
    record { tells_reply = tells_reply; was_sent = was_sent; packet = packet }

-- a packet in front of others, or left out
abbrev pub put_if : Bool → Packet → List Packet → List Packet
put_if true p ps = p ∷ ps
put_if false p ps = ps

abbrev pub put_unless : Bool → Packet → List Packet → List Packet
put_unless true p ps = ps
put_unless false p ps = p ∷ ps

-- the replies among events, the answers to pings, the packets sent, and how many weren't
abbrev pub replies_of : List Event → List Packet
replies_of [] = []
replies_of (e ∷ es) = put_if e.tells_reply e.packet (replies_of es)

abbrev pub pongs_of : List Event → List Packet
pongs_of [] = []
pongs_of (e ∷ es) = put_unless e.tells_reply e.packet (pongs_of es)

abbrev pub sent_of : List Event → List Packet
sent_of [] = []
sent_of (e ∷ es) = put_if e.was_sent e.packet (sent_of es)

abbrev pub one_unless : Bool → ℕ
one_unless true = 0
one_unless false = 1

abbrev pub lost_of : List Event → ℕ
lost_of [] = 0
lost_of (e ∷ es) = one_unless e.was_sent + lost_of es

-- a count that was raised so many times
abbrev pub raised_by : ℕ → ℕ → ℕ
raised_by times count = max count (min (count + times) last_count)

-- what was sent, where the link tells it, how many answers weren't, and the link's count of sends
-- that failed
pub record Post : Type 0 where
  pub out : Option (List Packet)
  pub unsent : ℕ
  pub sends : ℕ

abbrev pub post : LinkSeen → ℕ → Post
post link unsent = record { out = link.out; unsent = unsent; sends = link.sends }

-- these replies and these answers to pings were sent, but for those counted
pub record Sending (replies pongs : List Packet) (p p' : Post) : Type 0 where
  pub events : List Event
  pub told : replies ≡ replies_of events
  pub answered : pongs ≡ pongs_of events
  pub out : Adds p.out (sent_of events) p'.out
  pub unsent : p'.unsent ≡ raised_by (lost_of events) p.unsent
  pub rose : RoseBy (lost_of events) p.sends p'.sends
