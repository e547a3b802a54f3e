-- A reply tells its index, its name and its value, with the tags `isi`; the answer to a ping tells
-- `looper`, `1.0.0` and the number of loops, with the tags `ssi`. Each goes to a return address, on
-- a return path. A reply goes where the accepted command with its number says: one that no command
-- of OSC with a return address asked for goes nowhere.
-- "OSC paths" in docs/formats.md.
use Rattle.std.specs.Prelude.{◌≡◌, ℕ, ℤ, ◌==◌, pos, if◌then◌else◌, List, [], ◌∷◌, ◌++◌, Option, Some, None, codes, slice_get}
use Rattle.std.specs.Int.{w32, to_be_bytes, cast_unsigned}
use Rattle.sl_commands.specs.declared.reply.Reply.{Reply}
use Rattle.sl_commands.specs.Replies.{what_name}
use Rattle.osc_reader.specs.declared.write.OutArg.{OutArg}
use Rattle.osc_reader.specs.declared.write.OutArg.TheVariants.{Int, Text}
use Rattle.osc_reader.specs.Strings.{string_of}
use Rattle.osc_paths.specs.declared.request.ReturnTo.{ReturnTo}
use Rattle.live_ports.specs.Links.{Packet, packet}
use Rattle.senders.specs.declared.accepted.Accepted.{Accepted}
use Rattle.senders.specs.declared.decision.Decision.{Decision}
use Rattle.senders.specs.declared.decision.Decision.TheVariants.{Ping}
use Rattle.senders.specs.Hearing.{Input, pings}

-- the four bytes of a number
abbrev pub number_bytes : ℤ → List ℕ
number_bytes number = to_be_bytes w32 (cast_unsigned w32 number)

-- the bytes of a reply, on a return path
abbrev pub reply_bytes : List ℕ → Reply → List ℕ
reply_bytes path r = string_of path ++ (string_of (codes ",isi") ++ (number_bytes r.index
    ++ (string_of (what_name r.what) ++ (number_bytes r.value ++ []))))

-- the bytes of the answer to a ping, where there are so many loops
abbrev pub pong_bytes : List ℕ → ℕ → List ℕ
pong_bytes path loops = string_of path ++ (string_of (codes ",ssi") ++ (string_of (codes "looper")
    ++ (string_of (codes "1.0.0") ++ (number_bytes (pos loops) ++ []))))

-- the argument is this text
abbrev pub IsTextArg : List ℕ → OutArg → Type 0
IsTextArg bytes (Text text) = text.bytes ≡ bytes
IsTextArg bytes (Int number) = ⊥

-- the packet of a reply, and that of the answer to a ping
abbrev pub reply_packet : Reply → ReturnTo → Packet
reply_packet r to = packet to.addr (reply_bytes to.path r)

abbrev pub pong_packet : ℕ → ReturnTo → Packet
pong_packet loops to = packet to.addr (pong_bytes to.path loops)

-- where the reply to an accepted command goes, where it has an address
abbrev pub answer_of : Option Accepted → Option ReturnTo
answer_of None = None
answer_of (Some a) = a.answer

abbrev pub return_for : List Accepted → Reply → Option ReturnTo
return_for accepted r = if r.sender == 0 then answer_of (slice_get accepted r.seq) else None

-- these packets tell these replies, in order, each to its return address
abbrev pub AreTold : List Accepted → List Reply → List Packet → Type 0
AreTold accepted [] packets = packets ≡ []
AreTold accepted (r ∷ rs) packets = (to : ReturnTo) × (rest : List Packet)
    × (return_for accepted r ≡ Some to) × (packets ≡ reply_packet r to ∷ rest)
    × AreTold accepted rs rest

-- the answers to the pings among what was heard, in order
abbrev pub pong_on : ℕ → Input → List Packet
pong_on loops (pings to) = pong_packet loops to ∷ []
pong_on loops _ = []

abbrev pub pongs_for : ℕ → List Input → List Packet
pongs_for loops [] = []
pongs_for loops (input ∷ inputs) = pong_on loops input ++ pongs_for loops inputs

-- the same among what came of it
abbrev pub pong_after : ℕ → Decision → List Packet
pong_after loops (Ping to) = pong_packet loops to ∷ []
pong_after loops _ = []

abbrev pub pongs_after : ℕ → List Decision → List Packet
pongs_after loops [] = []
pongs_after loops (d ∷ ds) = pong_after loops d ++ pongs_after loops ds
