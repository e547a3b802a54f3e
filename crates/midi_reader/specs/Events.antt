-- An event comes at the last byte of a group, and says what its status byte and its data bytes
-- mean. A real-time byte F8, FA, FB or FC gives an event at once. No other byte gives one.
-- A note on with velocity 0 is a note off. A pitch bend is the second data byte times 128 and the
-- first.
-- "MIDI" in docs/formats.md.
use Rattle.std.specs.Prelude.{◌≤◌, ◌<◌, ℕ, ◌+◌, ◌*◌, ◌%◌, ◌/◌, Bool, ◌||◌, ◌==◌, if◌then◌else◌, List, [], ◌∷◌, ◌++◌, reverse, Option, Some, None, option_to_list}
use Rattle.midi_reader.specs.declared.event.MidiEvent.{MidiEvent}
use Rattle.midi_reader.specs.declared.event.MidiEvent.TheVariants.{NoteOff, NoteOn, PolyPressure, ControlChange, ProgramChange, Pressure, PitchBend, Real}
use Rattle.midi_reader.specs.Bytes.{is_data, status_behind, data_behind, are_whole_groups}

-- a note that begins, or with velocity 0 ends
abbrev pub note_on : ℕ → ℕ → ℕ → MidiEvent
note_on channel note velocity = if velocity == 0 then NoteOff channel note else
    NoteOn channel note velocity

-- the event of a status byte, by its upper half and the channel
abbrev pub event_on : ℕ → ℕ → ℕ → ℕ → MidiEvent
event_on upper channel first second =
    if upper == 8 then NoteOff channel first
    else if upper == 9 then note_on channel first second
    else if upper == 10 then PolyPressure channel first second
    else if upper == 11 then ControlChange channel first second
    else if upper == 12 then ProgramChange channel second
    else if upper == 13 then Pressure channel second
    else PitchBend channel (second * 128 + first)

-- the byte before the latest, where a group has two
abbrev pub latest : List ℕ → ℕ
latest [] = 0
latest (byte ∷ before) = byte

-- the event of a status byte and a whole group, whose last byte is given beside the data before it,
-- the latest first
abbrev pub event_of : ℕ → List ℕ → ℕ → MidiEvent
event_of status before last = event_on (status / 16) (status % 16) (latest before) last

-- the event at a data byte, under the status in force and behind the data since it
abbrev pub event_under : Option ℕ → List ℕ → ℕ → Option MidiEvent
event_under None before byte = None
event_under (Some status) before byte = if are_whole_groups status (byte ∷ before) then
    Some (event_of status before byte) else None

-- a byte that gives an event of its own
abbrev pub is_told_at_once : ℕ → Bool
is_told_at_once byte = byte == 248 || byte == 250 || byte == 251 || byte == 252

-- the event at a byte behind others, the latest of them first
abbrev pub event_behind : List ℕ → ℕ → Option MidiEvent
event_behind before byte =
    if is_data byte then event_under (status_behind before) (data_behind before) byte
    else if is_told_at_once byte then Some (Real byte) else None

-- the event at a byte that is fed behind others
abbrev pub event_at : List ℕ → ℕ → Option MidiEvent
event_at fed byte = event_behind (reverse fed) byte

-- the events at bytes that are fed behind others, in order
abbrev pub events_after : List ℕ → List ℕ → List MidiEvent
events_after fed [] = []
events_after fed (byte ∷ bytes) =
    option_to_list (event_at fed byte) ++ events_after (fed ++ byte ∷ []) bytes

-- the events of all bytes, in order
abbrev pub events_of : List ℕ → List MidiEvent
events_of bytes = events_after [] bytes

-- channels are below 16, data below 128, a bend is below 16384, and a note begins with a velocity
-- above 0
abbrev pub IsEvent : MidiEvent → Type 0
IsEvent (NoteOff channel note) = (channel < 16) × (note < 128)
IsEvent (NoteOn channel note velocity) = (channel < 16) × (note < 128) × (0 < velocity)
    × (velocity < 128)
IsEvent (PolyPressure channel note amount) = (channel < 16) × (note < 128) × (amount < 128)
IsEvent (ControlChange channel number amount) = (channel < 16) × (number < 128) × (amount < 128)
IsEvent (ProgramChange channel number) = (channel < 16) × (number < 128)
IsEvent (Pressure channel amount) = (channel < 16) × (amount < 128)
IsEvent (PitchBend channel amount) = (channel < 16) × (amount < 16384)
IsEvent (Real byte) = 248 ≤ byte
