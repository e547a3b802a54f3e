-- Serving MIDI reads bytes and has the sender hear each, in order. It reads at least once before it
-- looks for the end of the session: so a byte was read, or a read failed or gave nothing for now,
-- or the source is at its end. It ends where the session's end was told, by a number that is taken;
-- where the source is at its end; or with a read that failed, and then its count rose.
-- "Serving" in docs/rules.md.
use Rattle.std.specs.Prelude.{◌≡◌, ◌≤◌, ◌⊎◌, ℕ, true, false, List, [], ◌∷◌, ◌++◌, length}
use Rattle.sl_base.specs.Counting.{Rose}
use Rattle.event_rings.specs.Ends.{TakeEnd, SameTakeRing}
use Rattle.midi_reader.specs.Feeding.{HasBeenFed}
use Rattle.live_ports.specs.Sources.{Consumes, SourceSeen}
use Rattle.senders.specs.declared.decision.Decision.{Decision}
use Rattle.senders.specs.Hearing.{Hears}
use Rattle.senders.specs.Senders.{MidiSenderOf, StaysMidiSender, bytes_inputs}
use Rattle.midi_serving.specs.declared.serving.MidiEnd.{MidiEnd}
use Rattle.midi_serving.specs.declared.serving.MidiEnd.TheVariants.{Over, End, ReadFault}

-- the sender heard these bytes, whatever it was fed before
pub record HearsBytes (bytes : List ℕ) (s s' : MidiSenderOf) : Type 0 where
  pub stays : StaysMidiSender s s'
  pub fed : (before : List ℕ) → HasBeenFed s.reader before →
      HasBeenFed s'.reader (before ++ bytes)
  pub heard : (before : List ℕ) → HasBeenFed s.reader before →
      (decided : List Decision) × Hears s.ring.capacity (bytes_inputs s.bindings before bytes)
      s.account.tally s'.account.tally decided

-- these bytes were read, and heard
pub record MidiWent (bytes : List ℕ) (source source' : SourceSeen)
    (s s' : MidiSenderOf) : Type 0 where
  pub read : Consumes source.left bytes source'.left
  pub hears : HearsBytes bytes s s'
  pub faults : source.faults ≤ source'.faults
  pub idles : source.idles ≤ source'.idles

-- a byte was read, or a read gave nothing for now or failed, or the source is at its end
abbrev pub HasRead : List ℕ → SourceSeen → SourceSeen → Type 0
HasRead bytes source source' = (1 ≤ length bytes) ⊎ ((source'.ended ≡ true)
    ⊎ (Rose source.idles source'.idles ⊎ Rose source.faults source'.faults))

-- why serving ended: no other cause was there before
abbrev pub MidiCause : SourceSeen → SourceSeen → MidiEnd → Type 0
MidiCause source source' Over = (source'.ended ≡ false) × (source'.faults ≡ source.faults)
MidiCause source source' End = (source'.ended ≡ true) × (source'.faults ≡ source.faults)
MidiCause source source' ReadFault =
    (source'.ended ≡ false) × Rose source.faults source'.faults

-- what was taken of the session's end: its number where that is why serving ended, else nothing
abbrev pub TookEnd : TakeEnd ℕ → TakeEnd ℕ → MidiEnd → Type 0
TookEnd over over' Over = (frames : ℕ) × (over'.taken ≡ over.taken ++ frames ∷ [])
TookEnd over over' End = over'.taken ≡ over.taken
TookEnd over over' ReadFault = over'.taken ≡ over.taken

-- what serving MIDI did
pub record MidiDid (source source' : SourceSeen) (s s' : MidiSenderOf) (over over' : TakeEnd ℕ)
    (ended : MidiEnd) : Type 0 where
  pub bytes : List ℕ
  pub went : MidiWent bytes source source' s s'
  pub has_read : HasRead bytes source source'
  pub cause : MidiCause source source' ended
  pub ring : SameTakeRing over over'
  pub told : TookEnd over over' ended
