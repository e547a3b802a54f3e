-- The files of a run are read in this order: IN, the session's text and its WAV files by index
-- where a session is named, and JOURNAL, for as many loops as the settings have. Where no session
-- is named the settings are those of empty loops at IN's rate, and no list is given.
-- The first bad file is the first by this order that is missing or not in its form. The limits are
-- judged behind all files.
-- "The files of a run" in docs/formats.md.
use Rattle.std.specs.Prelude.{◌≡◌, ℕ, List, [], Option, Some, None, length}
use Rattle.sl_base.specs.Sounds.{Sound}
use Rattle.sl_commands.specs.declared.entry.Entry.{Entry}
use Rattle.sl_commands.specs.Settings.{LooperSettings, default_settings}
use Rattle.sl_ports.specs.Files.{Files}
use Rattle.wav_pcm.specs.Reading.{Spelling}
use Rattle.session_file.specs.Loading.{IsLoaded, FirstBadFile}
use Rattle.run_files.specs.Named.{Named}
use Rattle.run_files.specs.OneFile.{HoldsWav, HoldsJournal, IsBadInput, IsBadJournal}
use Rattle.run_files.specs.RunLimits.{IsWithin, IsBeyond}

-- what the files of a run tell
pub record Contents : Type 0 where
  pub spelling : Spelling
  pub frames : List Sound
  pub settings : LooperSettings
  pub lists : List (List Sound)
  pub entries : List Entry

-- the settings and lists that a run begins with: the session's, or those of so many empty loops at
-- a rate
abbrev pub Begins : Option Files → Option (List ℕ) → ℕ → ℕ → LooperSettings → List (List Sound) →
    Type 0
Begins files None rate loops settings lists = (settings ≡ default_settings rate loops)
    × (lists ≡ [])
Begins files (Some session) rate loops settings lists = IsLoaded files session settings lists

-- the first bad file of the session, where one is named
abbrev pub IsBadBeginning : Option Files → Option (List ℕ) → List ℕ → ℕ → ℕ → Type 0
IsBadBeginning files None name kind line = ⊥
IsBadBeginning files (Some session) name kind line = FirstBadFile files session name kind line

-- all files are good, and this is what they tell
pub record HoldsRun (files : Option Files) (n : Named) (t : Contents) : Type 0 where
  pub input : HoldsWav files n.input t.spelling t.frames
  pub begins : Begins files n.session t.spelling.rate n.loops t.settings t.lists
  pub journal : HoldsJournal files n.journal (length t.settings.strips) t.entries

-- all files are good, and what they tell is within the limits
pub record IsRunOf (files : Option Files) (n : Named) (t : Contents) : Type 0 where
  pub holds : HoldsRun files n t
  pub within : IsWithin n.chunks (length t.frames) t.lists

-- all files are good, and a limit is exceeded
pub record ExceedsLimit (files : Option Files) (n : Named) : Type 0 where
  pub contents : Contents
  pub holds : HoldsRun files n contents
  pub beyond : IsBeyond n.chunks (length contents.frames) contents.lists

-- the first bad file of a run: all before it are good
pub data FirstBad (files : Option Files) (n : Named) (name : List ℕ) (kind line : ℕ) : Type 0 where
  bad_input : IsBadInput files n.input name kind line → FirstBad files n name kind line
  bad_beginning : (spelling : Spelling) (frames : List Sound) →
      HoldsWav files n.input spelling frames → IsBadBeginning files n.session name kind line →
      FirstBad files n name kind line
  bad_journal : (spelling : Spelling) (frames : List Sound) →
      HoldsWav files n.input spelling frames → (settings : LooperSettings)
      (lists : List (List Sound)) → Begins files n.session spelling.rate n.loops settings lists →
      IsBadJournal files n.journal (length settings.strips) name kind line →
      FirstBad files n name kind line
