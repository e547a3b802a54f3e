-- IN is a WAV file, JOURNAL a journal for the number of loops. What is wrong with one of them has a
-- number and a line: 0 and 0 where the file is missing, a WAV file's fault its number and 0, a
-- journal's fault its kind and line.
-- "The files of a run" in docs/formats.md.
use Rattle.std.specs.Prelude.{◌≡◌, ℕ, List, Option, Some, None, Err}
use Rattle.sl_base.specs.Sounds.{Sound}
use Rattle.sl_commands.specs.declared.entry.Entry.{Entry}
use Rattle.sl_commands.specs.declared.fault.TextKind.{TextKind}
use Rattle.sl_commands.specs.TextFaults.{kind_number}
use Rattle.sl_ports.specs.Files.{Files, Holds}
use Rattle.text_lines.specs.FirstFaults.{FirstFault}
use Rattle.wav_pcm.specs.declared.fault.WavFault.{WavFault}
use Rattle.wav_pcm.specs.Reading.{Spelling, form_of}
use Rattle.wav_pcm.specs.Faults.{fault_number}
use Rattle.wav_pcm.specs.Files.{IsWav}
use Rattle.journal_text.specs.Journals.{IsJournal, journal_form}

-- the file under the name is a WAV file of this spelling and these frames
pub record HoldsWav (files : Option Files) (name : List ℕ) (spelling : Spelling)
    (frames : List Sound) : Type 0 where
  pub bytes : List ℕ
  pub there : Holds files name (Some bytes)
  pub wav : IsWav bytes spelling frames

-- it is missing, or is no WAV file, for the reason with this number
pub data LacksWav (files : Option Files) (name : List ℕ) (kind : ℕ) : Type 0 where
  no_wav_file : Holds files name None → kind ≡ 0 → LacksWav files name kind
  bad_wav : (bytes : List ℕ) → Holds files name (Some bytes) → (fault : WavFault) →
      form_of bytes ≡ Err fault → kind ≡ fault_number fault → LacksWav files name kind

-- the file under the name is the journal of these entries, for so many loops
pub record HoldsJournal (files : Option Files) (name : List ℕ) (loops : ℕ)
    (entries : List Entry) : Type 0 where
  pub bytes : List ℕ
  pub there : Holds files name (Some bytes)
  pub text : IsJournal loops bytes entries

-- it is missing, or is no journal for so many loops, for the reason with this number, at this line
pub data LacksJournal (files : Option Files) (name : List ℕ) (loops kind line : ℕ) : Type 0 where
  no_journal_file : Holds files name None → kind ≡ 0 → line ≡ 0 →
      LacksJournal files name loops kind line
  bad_journal_text : (bytes : List ℕ) → Holds files name (Some bytes) → (text_kind : TextKind) →
      FirstFault (journal_form loops) bytes line text_kind → kind ≡ kind_number text_kind →
      LacksJournal files name loops kind line

-- IN of this name is the bad file
pub record IsBadInput (files : Option Files) (input name : List ℕ) (kind line : ℕ) : Type 0 where
  pub named : name ≡ input
  pub lacks : LacksWav files input kind
  pub no_line : line ≡ 0

-- JOURNAL of this name is the bad file, for so many loops
pub record IsBadJournal (files : Option Files) (journal : List ℕ) (loops : ℕ) (name : List ℕ)
    (kind line : ℕ) : Type 0 where
  pub named : name ≡ journal
  pub lacks : LacksJournal files journal loops kind line
