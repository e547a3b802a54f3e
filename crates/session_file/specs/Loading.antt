-- A session is loaded by its text first, and then by the WAV files of the loops with a length above
-- 0, in the order of their indices. The first file that is missing, isn't in its form, or isn't of
-- two channels of 24 bits with as many frames as the text says, is told with a number and a line: a
-- missing file 0, a text's fault its kind and line, a WAV file's fault its number, and another WAV
-- file 8, all but the text's with line 0.
-- "Sessions" in docs/formats.md.
use Rattle.std.specs.Prelude.{◌≡◌, ◌≤◌, ℕ, zero, suc, ◌+◌, Bool, true, false, List, [], ◌∷◌, ◌++◌, length, Option, Some, None, Result, Ok, Err, ⊤}
use Rattle.sl_base.specs.Sounds.{Sound}
use Rattle.sl_commands.specs.declared.StripSettings.{StripSettings}
use Rattle.sl_commands.specs.declared.TextKind.{TextKind}
use Rattle.sl_commands.specs.Settings.{LooperSettings}
use Rattle.sl_commands.specs.TextFaults.{kind_number}
use Rattle.sl_ports.specs.Files.{Files, Holds}
use Rattle.text_lines.specs.FirstFaults.{FirstFault}
use Rattle.wav_pcm.specs.declared.WavFault.{WavFault}
use Rattle.wav_pcm.specs.Reading.{Spelling, form_of}
use Rattle.wav_pcm.specs.Faults.{fault_number}
use Rattle.wav_pcm.specs.Files.{IsWav}
use Rattle.session_file.specs.Parts.{part_name}
use Rattle.session_file.specs.Sessions.{IsSession, session_form}
use Rattle.session_file.specs.declared.loading.LoadFault.{LoadFault}
use Rattle.session_file.specs.declared.loading.LoadFault.TheVariants.{File, Read, Memory}

-- a WAV file is one of a loop of this length
pub record IsPartSpelled (spelling : Spelling) (frames : List Sound) (len : ℕ) : Type 0 where
  pub channels : spelling.channels ≡ 2
  pub bits : spelling.bits ≡ 24
  pub count : length frames ≡ len

-- the bytes are the file of a loop of this length with this list
pub record IsPartOf (bytes : List ℕ) (len : ℕ) (list : List Sound) : Type 0 where
  pub spelling : Spelling
  pub wav : IsWav bytes spelling list
  pub spelled : IsPartSpelled spelling list len

-- the bytes are no such file, for the reason with this number
pub data IsNoPart (bytes : List ℕ) (len kind : ℕ) : Type 0 where
  no_wav : (fault : WavFault) → form_of bytes ≡ Err fault → kind ≡ fault_number fault →
      IsNoPart bytes len kind
  other_wav : (spelling : Spelling) (frames : List Sound) → IsWav bytes spelling frames →
      ¬ IsPartSpelled spelling frames len → kind ≡ 8 → IsNoPart bytes len kind

-- the file under the name is that of a loop of this length with this list
pub record HoldsPart (files : Option Files) (name : List ℕ) (len : ℕ)
    (list : List Sound) : Type 0 where
  pub bytes : List ℕ
  pub there : Holds files name (Some bytes)
  pub part : IsPartOf bytes len list

-- it is missing, or is no such file, for the reason with this number
pub data LacksPart (files : Option Files) (name : List ℕ) (len kind : ℕ) : Type 0 where
  missing : Holds files name None → kind ≡ 0 → LacksPart files name len kind
  bad : (bytes : List ℕ) → Holds files name (Some bytes) → IsNoPart bytes len kind →
      LacksPart files name len kind

-- the list of a loop of this length: an empty one has no file
abbrev pub IsPart : Option Files → List ℕ → ℕ → List Sound → Type 0
IsPart files name zero list = list ≡ []
IsPart files name (suc n) list = HoldsPart files name (suc n) list

-- the lists of these loops, from this index on
abbrev pub AreParts : Option Files → List ℕ → ℕ → List StripSettings → List (List Sound) → Type 0
AreParts files session index [] [] = ⊤
AreParts files session index (s ∷ ss) (list ∷ lists) =
    IsPart files (part_name session index) s.length list
    × AreParts files session (index + 1) ss lists
AreParts files session index _ _ = ⊥

-- the session was loaded: its settings and its lists
pub record IsLoaded (files : Option Files) (session : List ℕ) (settings : LooperSettings)
    (lists : List (List Sound)) : Type 0 where
  pub bytes : List ℕ
  pub there : Holds files session (Some bytes)
  pub text : IsSession bytes settings
  pub parts : AreParts files session 0 settings.strips lists

-- all parts of these loops are there, and then one isn't
pub record FirstBadPart (files : Option Files) (session : List ℕ) (strips : List StripSettings)
    (name : List ℕ) (kind : ℕ) : Type 0 where
  pub good : List StripSettings
  pub strip : StripSettings
  pub rest : List StripSettings
  pub parted : strips ≡ good ++ strip ∷ rest
  pub lists : List (List Sound)
  pub parts : AreParts files session 0 good lists
  pub some : 1 ≤ strip.length
  pub name_is : name ≡ part_name session (length good)
  pub lacks : LacksPart files name strip.length kind

-- this is the first bad file
pub data FirstBadFile (files : Option Files) (session name : List ℕ) (kind line : ℕ) : Type 0 where
  no_text : name ≡ session → Holds files session None → kind ≡ 0 → line ≡ 0 →
      FirstBadFile files session name kind line
  bad_text : name ≡ session → (bytes : List ℕ) → Holds files session (Some bytes) →
      (text_kind : TextKind) → FirstFault session_form bytes line text_kind →
      kind ≡ kind_number text_kind → FirstBadFile files session name kind line
  bad_part : (bytes : List ℕ) → Holds files session (Some bytes) → (settings : LooperSettings) →
      IsSession bytes settings → FirstBadPart files session settings.strips name kind → line ≡ 0 →
      FirstBadFile files session name kind line

-- a reading failed
abbrev pub is_unread : {A : Type 0} → Result A LoadFault → Bool
is_unread (Ok _) = false
is_unread (Err (File _ _ _)) = false
is_unread (Err Read) = true
is_unread (Err Memory) = false
