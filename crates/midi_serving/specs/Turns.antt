-- One turn of serving MIDI reads once. The bytes that came are heard; else nothing came for now, or
-- serving ends.
-- "Serving" in docs/rules.md.
use Rattle.std.specs.Prelude.{ℕ, List, Option, Some, None}
use Rattle.live_ports.specs.Sources.{SourceSeen}
use Rattle.senders.specs.Senders.{MidiSenderOf}
use Rattle.midi_serving.specs.declared.serving.MidiEnd.{MidiEnd}
use Rattle.midi_serving.specs.declared.serving.MidiEnd.TheVariants.{Over, End, ReadFault}
use Rattle.midi_serving.specs.Serving.{MidiWent, HasRead, MidiCause}

-- it read once, and what came was heard
pub record ReadsOnce (source source' : SourceSeen) (s s' : MidiSenderOf) : Type 0 where
  pub bytes : List ℕ
  pub went : MidiWent bytes source source' s s'
  pub has_read : HasRead bytes source source'

-- serving goes on, or ends for a cause of its own
abbrev pub TurnsOnce : SourceSeen → SourceSeen → MidiSenderOf → MidiSenderOf → Option MidiEnd →
    Type 0
TurnsOnce source source' s s' None = ReadsOnce source source' s s'
    × MidiCause source source' Over
TurnsOnce source source' s s' (Some Over) = ⊥
TurnsOnce source source' s s' (Some End) = ReadsOnce source source' s s'
    × MidiCause source source' End
TurnsOnce source source' s s' (Some ReadFault) = ReadsOnce source source' s s'
    × MidiCause source source' ReadFault
