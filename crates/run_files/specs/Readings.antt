-- What each step of reading the files of a run tells.
-- "The files of a run" in docs/formats.md.
use Rattle.std.specs.Prelude.{◌≡◌, ℕ, Bool, true, false, List, Option, length, Result, Ok, Err, ⊤}
use Rattle.sl_base.specs.Sounds.{Sound}
use Rattle.sl_commands.specs.declared.entry.Entry.{Entry}
use Rattle.sl_commands.specs.Settings.{LooperSettings}
use Rattle.sl_ports.specs.Files.{Files}
use Rattle.session_file.specs.declared.loading.LoadFault.{LoadFault}
use Rattle.session_file.specs.declared.loading.LoadFault.TheVariants.{File as BadFile, Read as Unread, Memory as NoMemory}
use Rattle.session_file.specs.Outcomes.{SaysOf, ToldOf}
use Rattle.sl_commands.specs.declared.fault.TextKind.{TextKind}
use Rattle.sl_commands.specs.TextFaults.{kind_number}
use Rattle.text_lines.specs.FirstFaults.{FirstFault}
use Rattle.wav_pcm.specs.declared.fault.WavFault.{WavFault}
use Rattle.wav_pcm.specs.Reading.{form_of}
use Rattle.wav_pcm.specs.Faults.{fault_number}
use Rattle.wav_pcm.specs.Files.{IsWav}
use Rattle.journal_text.specs.Journals.{IsJournal, journal_form}
use Rattle.wav_pcm.specs.Inputs.{InputOf, spelling_of_input}
use Rattle.run_files.specs.Named.{Named}
use Rattle.run_files.specs.OneFile.{HoldsWav, HoldsJournal, IsBadInput, IsBadJournal}
use Rattle.run_files.specs.RunLimits.{IsWithin, IsBeyond}
use Rattle.run_files.specs.AllFiles.{Contents, Begins, IsBadBeginning, HoldsRun, IsRunOf, ExceedsLimit, FirstBad}
use Rattle.run_files.specs.declared.run.RunFiles.{RunFiles}
use Rattle.run_files.specs.declared.run.FilesFault.{FilesFault}
use Rattle.run_files.specs.declared.run.FilesFault.TheVariants.{File, Read, Memory, Limit}

-- what was read, as what the files tell
abbrev pub told_of : RunFiles → Contents
told_of f =
    record {
      spelling = spelling_of_input f.input;
      frames = f.input.frames;
      settings = f.settings;
      lists = f.initial;
      entries = f.entries;
    }

-- a reading failed
abbrev pub is_unread : {A : Type 0} → Result A FilesFault → Bool
is_unread (Ok _) = false
is_unread (Err (File _ _ _)) = false
is_unread (Err Read) = true
is_unread (Err Memory) = false
is_unread (Err Limit) = false

-- the WAV file that bytes are, or why they aren't one; no reading can have failed
abbrev pub TellsInput : List ℕ → List ℕ → Result InputOf LoadFault → Type 0
TellsInput bytes name (Ok i) = IsWav bytes (spelling_of_input i) i.frames
TellsInput bytes name (Err fault) =
    ToldOf (λ at kind line. (at ≡ name) × (line ≡ 0)
    × ((why : WavFault) × (form_of bytes ≡ Err why) × (kind ≡ fault_number why))) fault

-- the journal that bytes are, for so many loops, or why they aren't one
abbrev pub TellsJournal : List ℕ → List ℕ → ℕ → Result (List Entry) LoadFault → Type 0
TellsJournal bytes name loops (Ok entries) = IsJournal loops bytes entries
TellsJournal bytes name loops (Err fault) =
    ToldOf (λ at kind line. (at ≡ name)
    × ((text_kind : TextKind) × FirstFault (journal_form loops) bytes line text_kind
    × (kind ≡ kind_number text_kind))) fault

-- IN, or what is wrong with it
abbrev pub ReadsInput : Option Files → List ℕ → Result InputOf LoadFault → Type 0
ReadsInput files name (Ok i) = HoldsWav files name (spelling_of_input i) i.frames
ReadsInput files name (Err fault) = SaysOf (IsBadInput files name) fault

-- the settings and lists that a run begins with, or the session's first bad file
abbrev pub ReadsBeginning : Option Files → Option (List ℕ) → ℕ → ℕ →
    Result (LooperSettings × List (List Sound)) LoadFault → Type 0
ReadsBeginning files session rate loops (Ok begun) = Begins files session rate loops begun.0 begun.1
ReadsBeginning files session rate loops (Err fault) = SaysOf (IsBadBeginning files session) fault

-- JOURNAL for so many loops, or what is wrong with it
abbrev pub ReadsJournal : Option Files → List ℕ → ℕ → Result (List Entry) LoadFault → Type 0
ReadsJournal files name loops (Ok entries) = HoldsJournal files name loops entries
ReadsJournal files name loops (Err fault) = SaysOf (IsBadJournal files name loops) fault

-- all files, or the first bad one
abbrev pub ReadsAll : Option Files → Named → Result RunFiles LoadFault → Type 0
ReadsAll files n (Ok f) = HoldsRun files n (told_of f)
ReadsAll files n (Err fault) = SaysOf (FirstBad files n) fault

-- a fault of reading, as the fault of the run
abbrev pub IsFaultOf : LoadFault → FilesFault → Type 0
IsFaultOf (BadFile name kind line) told = told ≡ File name kind line
IsFaultOf Unread told = told ≡ Read
IsFaultOf NoMemory told = told ≡ Memory

-- what was read is within the limits, where there are so many chunks, or it isn't
abbrev pub Judges : RunFiles → ℕ → Result RunFiles FilesFault → Type 0
Judges files chunks (Ok f) = (f ≡ files) × IsWithin chunks (length files.input.frames) files.initial
Judges files chunks (Err (File name kind line)) = ⊥
Judges files chunks (Err Read) = ⊥
Judges files chunks (Err Memory) = ⊥
Judges files chunks (Err Limit) = IsBeyond chunks (length files.input.frames) files.initial

-- what was read is the run of these files; or their first bad file; or all are good and a limit is
-- exceeded. A failed reading and want of memory say nothing
abbrev pub ReadsRun : Option Files → Named → Result RunFiles FilesFault → Type 0
ReadsRun files n (Ok f) = IsRunOf files n (told_of f)
ReadsRun files n (Err (File name kind line)) = FirstBad files n name kind line
ReadsRun files n (Err Read) = ⊤
ReadsRun files n (Err Memory) = ⊤
ReadsRun files n (Err Limit) = ExceedsLimit files n
