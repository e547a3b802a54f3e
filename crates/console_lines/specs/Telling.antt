-- What a run that isn't done tells the console: a line of the status, and before it that of the bad
-- file, with its fault and its line. Want of memory tells nothing. A run that is done tells its
-- text, with the line of its status behind it.
-- "The console" in docs/formats.md.
use Rattle.std.specs.Prelude.{◌≡◌, ℕ, List, ◌∷◌, [], ◌++◌, codes}
use Rattle.std.specs.Fmt.{decimal}
use Rattle.std.specs.Io.KnownBytes.{Appends}
use Rattle.sl_base.specs.Counting.{Rose}
use Rattle.sl_ports.specs.Effects.{TellsTo}
use Rattle.sl_ports.specs.Texts.{AppendsPrefix}
use Rattle.sl_ports.specs.declared.sinks.Sink.{Ghosts as Sink}
use Rattle.console_lines.specs.Statuses.{status_line}
use Rattle.console_lines.specs.declared.status.RunFault.{RunFault}
use Rattle.console_lines.specs.declared.status.RunFault.TheVariants.{BadFile as IsBad, Limit as Beyond, Reading, Writing, Memory as Lacking}
use Rattle.console_lines.specs.declared.status.Status.{Status}
use Rattle.console_lines.specs.declared.status.Status.TheVariants.{Done, Words, BadFile, ReadFault, WriteFault, Memory, Limit}

-- a fault and its line
abbrev pub fault_text : ℕ → ℕ → List ℕ
fault_text kind line =
    codes " fault " ++ (decimal kind ++ (codes " line " ++ (decimal line ++ (10 ∷ []))))

-- of a bad file
abbrev pub bad_file_text : List ℕ → ℕ → ℕ → List ℕ
bad_file_text name kind line =
    codes "file " ++ (name ++ (fault_text kind line ++ status_line BadFile))

-- of a run that is done, behind its replies and numbers
abbrev pub done_text : List ℕ → List ℕ
done_text text = text ++ status_line Done

-- what is told of a run that isn't done
abbrev pub TellsFault : {C : Type 0} → Sink C → C → C → RunFault → Type 0
TellsFault s old new (IsBad name kind line) = TellsTo s old new (bad_file_text name kind line)
TellsFault s old new Beyond = TellsTo s old new (status_line Limit)
TellsFault s old new Reading = TellsTo s old new (status_line ReadFault)
TellsFault s old new Writing = TellsTo s old new (status_line WriteFault)
TellsFault s old new Lacking = new ≡ old

-- what is told of a run that is done: its text, or a prefix of it where the count of faults rose
abbrev pub TellsDone : {C : Type 0} → Sink C → C → C → List ℕ → Status → Type 0
TellsDone s old new text Done = Appends (s.held old) (s.held new) text
    × (s.faults new ≡ s.faults old)
TellsDone s old new text WriteFault = Rose (s.faults old) (s.faults new)
    × AppendsPrefix (s.held old) (s.held new) text
TellsDone s old new text Words = ⊥
TellsDone s old new text BadFile = ⊥
TellsDone s old new text ReadFault = ⊥
TellsDone s old new text Memory = ⊥
TellsDone s old new text Limit = ⊥
