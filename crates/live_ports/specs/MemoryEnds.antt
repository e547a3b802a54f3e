-- A source in memory gives as many bytes as fit and are left. A link in memory gives its packets
-- one by one, and holds those that were sent. A call that is listed to fail or to give nothing
-- leaves what there is. Behind the last byte or packet comes the end, and from then on each call
-- answers it, whatever is listed. "The outside" in docs/rules.md.
use Rattle.std.specs.Prelude.{◌≤◌, IsTrue, ℕ, Bool, true, false, List, [], ◌∷◌, ◌++◌, length, drop, map, min, Some}
use Rattle.sl_ports.specs.declared.sinks.SinkAnswer.{SinkAnswer}
use Rattle.sl_ports.specs.declared.sinks.SinkAnswer.TheVariants.{Done, Failed as Unsent}
use Rattle.live_ports.specs.declared.calls.Due.{Due}
use Rattle.live_ports.specs.declared.calls.Due.TheVariants.{Failure, Nothing, Success}
use Rattle.live_ports.specs.declared.source.SourceAnswer.{SourceAnswer}
use Rattle.live_ports.specs.declared.source.SourceAnswer.TheVariants.{Got, Idle, End, Failed}
use Rattle.live_ports.specs.Calls.{Tally}
use Rattle.live_ports.specs.Sources.{SourceSeen}
use Rattle.live_ports.specs.Links.{Packet, LinkSeen, cut}

-- what a source in memory has left, the calls made on it, and whether it has ended
pub record SourceState : Type 0 where
  pub left : List ℕ
  pub calls : Tally
  pub ended : Bool

-- what its fields keep: the next place is one of the list or its end, and that where it has ended
pub record IsPlace (next len : ℕ) (ended : Bool) : Type 0 where
  pub within : next ≤ len
  pub out : IsTrue ended → len ≤ next

-- what it tells as a source
abbrev pub source_seen : SourceState → SourceSeen
source_seen s =
    record { left = Some s.left; faults = s.calls.faults; idles = s.calls.idles; ended = s.ended }

-- the answer of a read that gives what it can
abbrev pub given : ℕ → List ℕ → SourceAnswer
given room [] = End
given room (byte ∷ bytes) = Got (min room (length (byte ∷ bytes)))

-- the answer by what the call is to come to
abbrev pub answer_due : Due → ℕ → List ℕ → SourceAnswer
answer_due Failure room left = Failed
answer_due Nothing room left = Idle
answer_due Success room left = given room left

-- the answer of a read, where the source has ended or not
abbrev pub answer_of : Bool → Due → ℕ → List ℕ → SourceAnswer
answer_of true call room left = End
answer_of false call room left = answer_due call room left

-- what is left behind a read with this answer
abbrev pub left_behind : List ℕ → SourceAnswer → List ℕ
left_behind left (Got n) = drop n left
left_behind left Idle = left
left_behind left End = left
left_behind left Failed = left

-- what a link in memory has left and holds, the calls made on it, and whether it has ended
pub record LinkState : Type 0 where
  pub left : List Packet
  pub out : List Packet
  pub receives : Tally
  pub sends : Tally
  pub ended : Bool

-- what it tells as a link
abbrev pub link_seen : LinkState → LinkSeen
link_seen l =
    record {
      left = Some (map cut l.left);
      out = Some l.out;
      receives = l.receives.faults;
      sends = l.sends.faults;
      idles = l.receives.idles;
      ended = l.ended;
    }

-- the packets held behind a send with this answer
abbrev pub out_behind : List Packet → Packet → SinkAnswer → List Packet
out_behind out p Done = out ++ p ∷ []
out_behind out p Unsent = out
