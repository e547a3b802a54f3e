-- What an event gives: the command of the first line that it matches.
-- A sweep gives `low + (high - low) * value / 127`, the quotient toward zero.
-- "Bindings" in docs/formats.md.
use Rattle.std.specs.Prelude.{ℕ, ℤ, pos, ◌+ℤ◌, ◌-ℤ◌, ◌*ℤ◌, int_div, Bool, ◌&&◌, ◌==◌, nat_le, nat_lt, if◌then◌else◌, List, [], ◌∷◌, Option, Some, None}
use Rattle.sl_commands.specs.declared.command.Command.{Command}
use Rattle.sl_commands.specs.declared.command.Command.TheVariants.{Set}
use Rattle.midi_reader.specs.declared.event.MidiEvent.{MidiEvent}
use Rattle.midi_reader.specs.declared.event.MidiEvent.TheVariants.{NoteOff, NoteOn, ControlChange, ProgramChange}
use Rattle.midi_bindings.specs.declared.binding.BindKind.{BindKind}
use Rattle.midi_bindings.specs.declared.binding.BindKind.TheVariants.{On, Off, Program, High, Low}
use Rattle.midi_bindings.specs.declared.binding.Binding.{Binding}
use Rattle.midi_bindings.specs.declared.binding.Binding.TheVariants.{Give, Sweep}

-- the event is of this kind, on this channel and with this number
abbrev pub is_event_of : BindKind → ℕ → ℕ → MidiEvent → Bool
is_event_of On channel number (NoteOn c n velocity) = c == channel && n == number
is_event_of Off channel number (NoteOff c n) = c == channel && n == number
is_event_of Program channel number (ProgramChange c n) = c == channel && n == number
is_event_of High channel number (ControlChange c n value) =
    c == channel && n == number && nat_le 64 value
is_event_of Low channel number (ControlChange c n value) =
    c == channel && n == number && nat_lt value 64
is_event_of kind channel number event = Bool.false

-- the value of a sweep at a value of its controller
abbrev pub swept : ℤ → ℤ → ℕ → ℤ
swept low high value = low +ℤ int_div ((high -ℤ low) *ℤ pos value) (pos 127)

-- what a binding gives at an event
abbrev pub given : Binding → MidiEvent → Option Command
given (Give kind channel number command) event = if is_event_of kind channel number event then
    Some command else None
given (Sweep channel number target control low high) (ControlChange c n value) =
    if c == channel && n == number then Some (Set target control (swept low high value)) else None
given (Sweep channel number target control low high) event = None

-- the first that is there
abbrev pub first_of : Option Command → Option Command → Option Command
first_of (Some command) others = Some command
first_of None others = others

-- what the first matching line gives
abbrev pub looked_up : List Binding → MidiEvent → Option Command
looked_up [] event = None
looked_up (binding ∷ bindings) event = first_of (given binding event) (looked_up bindings event)
