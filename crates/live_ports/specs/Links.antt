-- A link gives the packets that come in order, where it tells them, and takes packets that go out.
-- It counts the receives that failed, the sends that failed, and the receives that gave nothing for
-- now, and tells whether it has ended. A packet that comes has at most 8192 bytes: of a longer one
-- only these are there. At its end no packet is left, and what has ended stays ended.
-- "The outside" in docs/rules.md.
use Rattle.std.specs.Prelude.{◌≡◌, ◌≤◌, ℕ, Bool, true, false, ◌||◌, not, ⊤, List, [], ◌∷◌, ◌++◌, take, Option, Some, None, IfSome, IsTrue}
use Rattle.sl_base.specs.Counting.{Counts}
use Rattle.sl_base.specs.declared.addr.Addr.{Addr}
use Rattle.live_ports.specs.declared.link.LinkAnswer.{LinkAnswer}
use Rattle.live_ports.specs.declared.link.LinkAnswer.TheVariants.{Got, Idle, End, Failed}
use Rattle.live_ports.specs.Sources.{Consumes, IsOut}

-- a packet with the address that it comes from or goes to
pub record Packet : Type 0 where
  pub addr : Addr
  pub bytes : List ℕ

-- the packet of these bytes
abbrev pub packet : Addr → List ℕ → Packet
packet addr bytes = record { addr = addr; bytes = bytes }

-- what is received of a packet
abbrev pub cut : Packet → Packet
cut p = packet p.addr (take 8192 p.bytes)

-- what contracts see of a link: the packets left, as they will be received, and those sent, where
-- it tells them, its three counts, and whether it has ended
pub record LinkSeen : Type 0 where
  pub left : Option (List Packet)
  pub out : Option (List Packet)
  pub receives : ℕ
  pub sends : ℕ
  pub idles : ℕ
  pub ended : Bool

-- what contracts see of a real link, which tells neither what is left nor what was sent
pub record CallCounts : Type 0 where
  pub receives : ℕ
  pub sends : ℕ
  pub idles : ℕ
  pub ended : Bool

-- no call was made yet
abbrev pub uncalled : CallCounts
uncalled = record { receives = 0; sends = 0; idles = 0; ended = false }

-- what it tells as a link
abbrev pub untold : CallCounts → LinkSeen
untold l =
    record {
      left = None;
      out = None;
      receives = l.receives;
      sends = l.sends;
      idles = l.idles;
      ended = l.ended;
    }

-- the answer is a failure
abbrev pub is_failed : LinkAnswer → Bool
is_failed (Got n from) = false
is_failed Idle = false
is_failed End = false
is_failed Failed = true

-- nothing came for now
abbrev pub is_idle : LinkAnswer → Bool
is_idle (Got n from) = false
is_idle Idle = true
is_idle End = false
is_idle Failed = false

-- the answer is the end
abbrev pub is_end : LinkAnswer → Bool
is_end (Got n from) = false
is_end Idle = false
is_end End = true
is_end Failed = false

-- a packet has at most 8192 bytes
abbrev pub IsWithin : LinkAnswer → Type 0
IsWithin (Got n from) = n ≤ 8192
IsWithin Idle = ⊤
IsWithin End = ⊤
IsWithin Failed = ⊤

-- the packet that came into a buffer, or none
abbrev pub packets_in : List ℕ → LinkAnswer → List Packet
packets_in buf (Got n from) = packet from (take n buf) ∷ []
packets_in buf Idle = []
packets_in buf End = []
packets_in buf Failed = []

-- an end says that no packet is left
abbrev pub Ends : Option (List Packet) → LinkAnswer → Type 0
Ends left (Got n from) = ⊤
Ends left Idle = ⊤
Ends left End = IsOut left
Ends left Failed = ⊤

-- what a receive into a buffer did to the link
pub record DidReceive (old new : LinkSeen) (buf : List ℕ) (answer : LinkAnswer) : Type 0 where
  pub receives : Counts old.receives new.receives (is_failed answer)
  pub idles : Counts old.idles new.idles (is_idle answer)
  pub ended : new.ended ≡ (old.ended || is_end answer)
  pub stays : IsTrue old.ended → IsTrue (is_end answer)
  pub gives : Consumes old.left (packets_in buf answer) new.left
  pub ends : Ends new.left answer
  pub out : new.out ≡ old.out
  pub sends : new.sends ≡ old.sends

-- these packets were sent behind the others
abbrev pub Adds : Option (List Packet) → List Packet → Option (List Packet) → Type 0
Adds before more now = IfSome before (λ packets. now ≡ Some (packets ++ more))

-- a packet that was sent, or none
abbrev pub sent_if : Bool → Packet → List Packet
sent_if true p = p ∷ []
sent_if false p = []

-- a send changes nothing of what is received
pub record SameReceiving (old new : LinkSeen) : Type 0 where
  pub left : new.left ≡ old.left
  pub receives : new.receives ≡ old.receives
  pub idles : new.idles ≡ old.idles
  pub ended : new.ended ≡ old.ended

-- what a send did to the link
pub record DidSend (p : Packet) (old new : LinkSeen) (failed : Bool) : Type 0 where
  pub receiving : SameReceiving old new
  pub out : Adds old.out (sent_if (not failed) p) new.out
  pub sends : Counts old.sends new.sends failed
