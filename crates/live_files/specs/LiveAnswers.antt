-- What each step of reading the files of a live session tells.
-- "The files of a live session" in docs/formats.md.
use Rattle.std.specs.Prelude.{◌≡◌, ◌≤◌, ◌<◌, ℕ, List, Option, Result, Ok, Err, ⊤}
use Rattle.sl_commands.specs.declared.fault.TextKind.{TextKind}
use Rattle.sl_commands.specs.TextFaults.{kind_number}
use Rattle.sl_ports.specs.Files.{Files}
use Rattle.text_lines.specs.FirstFaults.{FirstFault}
use Rattle.session_file.specs.declared.loading.LoadFault.{LoadFault}
use Rattle.session_file.specs.Outcomes.{SaysOf, ToldOf}
use Rattle.midi_bindings.specs.declared.binding.Binding.{Binding}
use Rattle.midi_bindings.specs.Texts.{IsBindings, bindings_form}
use Rattle.run_files.specs.RunLimits.{chunks_for}
use Rattle.run_files.specs.declared.run.FilesFault.{FilesFault}
use Rattle.run_files.specs.declared.run.FilesFault.TheVariants.{File, Read, Memory, Limit}
use Rattle.live_files.specs.LiveNamed.{LiveNamed}
use Rattle.live_files.specs.BoundFile.{HoldsBindings, IsBadBindings, Binds, IsBadBound}
use Rattle.live_files.specs.LiveReading.{LiveContents, HoldsLive, IsLiveOf, ExceedsLive, FirstBadLive}
use Rattle.live_files.specs.declared.live.LiveFiles.{LiveFiles}

-- what was read, as what the files tell
abbrev pub told_live : LiveFiles → LiveContents
told_live f = record { settings = f.settings; lists = f.initial; bindings = f.bindings }

-- the bindings that bytes are, for so many loops, or why they aren't some
abbrev pub TellsBindings : List ℕ → List ℕ → ℕ → Result (List Binding) LoadFault → Type 0
TellsBindings bytes name loops (Ok bindings) = IsBindings loops bytes bindings
TellsBindings bytes name loops (Err fault) =
    ToldOf (λ at kind line. (at ≡ name)
    × ((text_kind : TextKind) × FirstFault (bindings_form loops) bytes line text_kind
    × (kind ≡ kind_number text_kind))) fault

-- the bindings of a file, or what is wrong with it
abbrev pub ReadsBindings : Option Files → List ℕ → ℕ → Result (List Binding) LoadFault → Type 0
ReadsBindings files name loops (Ok bindings) = HoldsBindings files name loops bindings
ReadsBindings files name loops (Err fault) = SaysOf (IsBadBindings files name loops) fault

-- the same, where a file is named
abbrev pub ReadsBound : Option Files → Option (List ℕ) → ℕ → Result (List Binding) LoadFault →
    Type 0
ReadsBound files bind loops (Ok bindings) = Binds files bind loops bindings
ReadsBound files bind loops (Err fault) = SaysOf (IsBadBound files bind loops) fault

-- all files, or the first bad one
abbrev pub ReadsAllLive : Option Files → LiveNamed → Result LiveFiles LoadFault → Type 0
ReadsAllLive files n (Ok f) = HoldsLive files n (told_live f)
ReadsAllLive files n (Err fault) = SaysOf (FirstBadLive files n) fault

-- there are chunks enough for what was read, or there aren't
abbrev pub JudgesLive : LiveFiles → ℕ → Result LiveFiles FilesFault → Type 0
JudgesLive files chunks (Ok f) = (f ≡ files) × (chunks_for files.initial ≤ chunks)
JudgesLive files chunks (Err (File name kind line)) = ⊥
JudgesLive files chunks (Err Read) = ⊥
JudgesLive files chunks (Err Memory) = ⊥
JudgesLive files chunks (Err Limit) = chunks < chunks_for files.initial

-- what was read is what these files tell; or their first bad file; or all are good and there are
-- too few chunks. A failed reading and want of memory say nothing
abbrev pub ReadsLive : Option Files → LiveNamed → Result LiveFiles FilesFault → Type 0
ReadsLive files n (Ok f) = IsLiveOf files n (told_live f)
ReadsLive files n (Err (File name kind line)) = FirstBadLive files n name kind line
ReadsLive files n (Err Read) = ⊤
ReadsLive files n (Err Memory) = ⊤
ReadsLive files n (Err Limit) = ExceedsLive files n
