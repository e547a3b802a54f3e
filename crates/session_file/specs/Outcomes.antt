-- What each step of loading a session tells.
-- "Sessions" in docs/formats.md.
use Rattle.std.specs.Prelude.{◌≡◌, ◌≤◌, ℕ, List, Option, Some, None, Result, Ok, Err, ⊤}
use Rattle.std.specs.declared.vec.Vec.{Vec}
use Rattle.std.specs.declared.alloc.Global.{Global}
use Rattle.sl_base.specs.Sounds.{Sound}
use Rattle.sl_commands.specs.declared.StripSettings.{StripSettings}
use Rattle.sl_commands.specs.Settings.{LooperSettings}
use Rattle.sl_ports.specs.Files.{Files, Holds}
use Rattle.wav_pcm.specs.declared.WavFault.{WavFault}
use Rattle.wav_pcm.specs.declared.WavFault.TheVariants.{Memory as NoMemory}
use Rattle.wav_pcm.specs.declared.Wav.{Wav}
use Rattle.wav_pcm.specs.Faults.{fault_number}
use Rattle.wav_pcm.specs.Forms.{wav_spelling}
use Rattle.text_lines.specs.FirstFaults.{FirstFault}
use Rattle.sl_commands.specs.declared.TextKind.{TextKind}
use Rattle.sl_commands.specs.TextFaults.{kind_number}
use Rattle.session_file.specs.Sessions.{IsSession, session_form}
use Rattle.session_file.specs.Loading.{IsPartSpelled, IsPartOf, IsNoPart, HoldsPart, LacksPart, IsPart, AreParts, IsLoaded, FirstBadPart, FirstBadFile}
use Rattle.session_file.specs.declared.loading.LoadFault.{LoadFault}
use Rattle.session_file.specs.declared.loading.LoadFault.TheVariants.{File, Read, Memory}

-- a fault that names a bad file, of which this holds; a failed reading and want of memory say
-- nothing
abbrev pub SaysOf : (List ℕ → ℕ → ℕ → Type 0) → LoadFault → Type 0
SaysOf Bad (File name kind line) = Bad name kind line
SaysOf Bad Read = ⊤
SaysOf Bad Memory = ⊤

-- the same of what is judged by bytes alone: no reading can have failed
abbrev pub ToldOf : (List ℕ → ℕ → ℕ → Type 0) → LoadFault → Type 0
ToldOf Bad (File name kind line) = Bad name kind line
ToldOf Bad Read = ⊥
ToldOf Bad Memory = ⊤

-- the bytes of a file
abbrev pub ReadsBytes : Option Files → List ℕ → Result (Vec ℕ Global) LoadFault → Type 0
ReadsBytes files name (Ok v) = Holds files name (Some v.items)
ReadsBytes files name (Err fault) =
    SaysOf (λ at kind line. (at ≡ name) × (kind ≡ 0) × (line ≡ 0) × Holds files name None) fault

-- the fault of a WAV file, under this name
abbrev pub IsFaultOf : List ℕ → WavFault → LoadFault → Type 0
IsFaultOf name NoMemory told = told ≡ Memory
IsFaultOf name fault told = told ≡ File name (fault_number fault) 0

-- the list of a WAV file, or that it isn't a part
abbrev pub ListOf : List ℕ → ℕ → Wav → Result (List Sound) LoadFault → Type 0
ListOf name len wav (Ok list) = (list ≡ wav.frames)
    × IsPartSpelled (wav_spelling wav) wav.frames len
ListOf name len wav (Err told) = (told ≡ File name 8 0)
    × ¬ IsPartSpelled (wav_spelling wav) wav.frames len

-- the list that bytes spell, or why they don't
abbrev pub TellsPart : List ℕ → List ℕ → ℕ → Result (List Sound) LoadFault → Type 0
TellsPart bytes name len (Ok list) = IsPartOf bytes len list
TellsPart bytes name len (Err fault) =
    ToldOf (λ at kind line. (at ≡ name) × (line ≡ 0) × IsNoPart bytes len kind) fault

-- the list of a file, or why there is none
abbrev pub ReadsPart : Option Files → List ℕ → ℕ → Result (List Sound) LoadFault → Type 0
ReadsPart files name len (Ok list) = HoldsPart files name len list
ReadsPart files name len (Err fault) =
    SaysOf (λ at kind line. (at ≡ name) × (line ≡ 0) × LacksPart files name len kind) fault

-- the list of a loop, or why there is none
abbrev pub ReadsLoop : Option Files → List ℕ → ℕ → Result (List Sound) LoadFault → Type 0
ReadsLoop files name len (Ok list) = IsPart files name len list
ReadsLoop files name len (Err fault) = SaysOf (λ at kind line. (at ≡ name) × (line ≡ 0) × (1 ≤ len)
    × LacksPart files name len kind) fault

-- the lists of all loops, or the first that is bad
abbrev pub LoadsParts : Option Files → List ℕ → List StripSettings →
    Result (List (List Sound)) LoadFault → Type 0
LoadsParts files session strips (Ok lists) = AreParts files session 0 strips lists
LoadsParts files session strips (Err fault) =
    SaysOf (λ at kind line. (line ≡ 0) × FirstBadPart files session strips at kind) fault

-- the text was read
pub record HoldsText (files : Option Files) (session : List ℕ)
    (settings : LooperSettings) : Type 0 where
  pub bytes : List ℕ
  pub there : Holds files session (Some bytes)
  pub text : IsSession bytes settings

-- the settings of a session, or the fault of its text
abbrev pub ReadsText : Option Files → List ℕ → Result LooperSettings LoadFault → Type 0
ReadsText files session (Ok settings) = HoldsText files session settings
ReadsText files session (Err fault) = SaysOf (FirstBadFile files session) fault

-- the session, or its first bad file
abbrev pub Loads : Option Files → List ℕ → Result (LooperSettings × List (List Sound)) LoadFault →
    Type 0
Loads files session (Ok loaded) = IsLoaded files session loaded.0 loaded.1
Loads files session (Err fault) = SaysOf (FirstBadFile files session) fault

-- the settings that bytes spell, or why they don't
abbrev pub TellsText : List ℕ → List ℕ → Result LooperSettings LoadFault → Type 0
TellsText bytes session (Ok settings) = IsSession bytes settings
TellsText bytes session (Err fault) =
    ToldOf (λ at kind line. (at ≡ session)
    × ((text_kind : TextKind) × FirstFault session_form bytes line text_kind
    × (kind ≡ kind_number text_kind))) fault
