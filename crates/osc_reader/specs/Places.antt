-- A packet is read from left to right. The first fault counts, and stands at the offset of the
-- field that has it. Want of memory is no fault of the packet.
-- "OSC packets" in docs/formats.md.
use Rattle.std.specs.Prelude.{◌≡◌, ◌⊎◌, ℕ, ◌-◌, List, length, Result, Ok, Err}
use Rattle.osc_reader.specs.declared.fault.PacketKind.{PacketKind}
use Rattle.osc_reader.specs.declared.fault.PacketKind.TheVariants as kinds
use Rattle.osc_reader.specs.declared.fault.PacketFault.{PacketFault}

-- the number of a kind of fault
abbrev pub kind_number : PacketKind → ℕ
kind_number kinds.Size = 1
kind_number kinds.Text = 2
kind_number kinds.Tags = 3
kind_number kinds.Short = 4
kind_number kinds.Extra = 5
kind_number kinds.Depth = 6
kind_number kinds.Memory = 7

-- a fault at the front of what is left of a part, by the offset of the part's end
abbrev pub fault_at : PacketKind → ℕ → List ℕ → PacketFault
fault_at kind end left = record { kind = kind; at = end - length left }

-- what is read at the front, and what is left behind it
infixl 10 ◌>>=◌
abbrev pub ◌>>=◌ : {A B : Type 0} → Result A PacketFault → (A → Result B PacketFault) →
    Result B PacketFault
(Ok x) >>= next = next x
(Err fault) >>= next = Err fault

-- a fault is that of the reading, unless memory ran out
abbrev pub Fails : {Y : Type 0} → PacketFault → Result Y PacketFault → Type 0
Fails fault read = (fault.kind ≡ kinds.Memory) ⊎ (read ≡ Err fault)

-- what a function gave, seen by view, is what the reading gives, unless memory ran out
abbrev pub Gives : {X Y : Type 0} → (X → Y) → Result X PacketFault → Result Y PacketFault → Type 0
Gives view (Ok x) read = read ≡ Ok (view x)
Gives view (Err fault) read = Fails fault read
