-- At its end a session tells the console its numbers on one line, and its status on another. A
-- console that fails has a first part of them. Want of memory tells nothing.
-- "The console" in docs/formats.md.
use Rattle.std.specs.Prelude.{◌≡◌, ℕ, List, [], ◌∷◌, ◌++◌, codes}
use Rattle.std.specs.Fmt.{decimal}
use Rattle.std.specs.Io.KnownBytes.{Appends}
use Rattle.sl_base.specs.Counting.{Rose}
use Rattle.sl_ports.specs.Texts.{AppendsPrefix}
use Rattle.sl_ports.specs.declared.sinks.Sink.{Ghosts as Sink}
use Rattle.live_core.specs.declared.status.LiveStatus.{LiveStatus}
use Rattle.live_core.specs.declared.status.LiveStatus.TheVariants.{Done, ReadFault, WriteFault, Torn, LinkFault, Memory, LongInput}
use Rattle.live_run.specs.declared.closing.Numbers.{Numbers}
use Rattle.live_run.specs.Statuses.{live_line}

-- the first of the numbers
abbrev pub first_numbers : Numbers → List ℕ
first_numbers n =
    codes "frames " ++ (decimal n.frames ++ (codes " entries " ++ (decimal n.entries
    ++ (codes " osc " ++ (decimal n.osc ++ (codes " midi " ++ (decimal n.midi
    ++ codes " ")))))))

-- and the others
abbrev pub last_numbers : Numbers → List ℕ
last_numbers n =
    codes "unsent " ++ (decimal n.unsent ++ (codes " saves " ++ (decimal n.saves
    ++ (codes " refused " ++ (decimal n.refused ++ (10 ∷ []))))))

-- the closing lines
abbrev pub closing_text : Numbers → LiveStatus → List ℕ
closing_text n status = (first_numbers n ++ last_numbers n) ++ live_line status

-- what the console was told, by how that ended
abbrev pub TellsClosing : {C : Type 0} → Sink C → List ℕ → C → C → LiveStatus → Type 0
TellsClosing s text old new Done = Appends (s.held old) (s.held new) text
    × (s.faults new ≡ s.faults old)
TellsClosing s text old new WriteFault = AppendsPrefix (s.held old) (s.held new) text
    × Rose (s.faults old) (s.faults new)
TellsClosing s text old new Memory = new ≡ old
TellsClosing s text old new ReadFault = ⊥
TellsClosing s text old new Torn = ⊥
TellsClosing s text old new LinkFault = ⊥
TellsClosing s text old new LongInput = ⊥
