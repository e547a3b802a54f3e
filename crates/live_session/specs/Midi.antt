-- The activity of MIDI goes on from what it was given to what it gives back: bytes were read, and
-- its sender heard each, in order. It asked at least once: a byte came, or a read failed or gave
-- nothing for now, or the source is at its end.
-- "The activities of a session" in docs/rules.md.
use Rattle.std.specs.Prelude.{ℕ, List}
use Rattle.senders.specs.Senders.{MidiSenderOf}
use Rattle.live_ports.specs.Sources.{SourceSeen}
use Rattle.midi_serving.specs.Serving.{MidiWent, HasRead}

-- what the activity owns: the sender with its ring, and the source
pub record MidiAt : Type 0 where
  pub sender : MidiSenderOf
  pub source : SourceSeen

-- what it did
pub record MidiRan (x y : MidiAt) : Type 0 where
  pub bytes : List ℕ
  pub went : MidiWent bytes x.source y.source x.sender y.sender
  pub asked : HasRead bytes x.source y.source
