-- Messages are added to a list as they are read.
-- "OSC packets" in docs/formats.md.
use Rattle.std.specs.Prelude.{◌≡◌, List, ◌++◌, Result, Ok, Err}
use Rattle.osc_reader.specs.declared.fault.PacketFault.{PacketFault}
use Rattle.osc_reader.specs.declared.message.Message.{Message}
use Rattle.osc_reader.specs.Places.{Fails}

-- messages that were read before, and what is still read
abbrev pub with_front : List Message → Result (List Message) PacketFault →
    Result (List Message) PacketFault
with_front front (Ok messages) = Ok (front ++ messages)
with_front front (Err fault) = Err fault

-- new is old with what was read, or the reading has this fault, unless memory ran out
abbrev pub Adds : {X : Type 0} → List Message → List Message → Result X PacketFault →
    Result (List Message) PacketFault → Type 0
Adds old new (Ok x) read = with_front old read ≡ Ok new
Adds old new (Err fault) read = Fails fault read
