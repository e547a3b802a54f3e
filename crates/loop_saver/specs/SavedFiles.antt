-- A save of a loop writes one file under its name: the WAV of the loop's list. A save of a session
-- writes the WAV of each loop whose list isn't empty, in index order, under the part's name, and
-- then its text under its own name. Each WAV has 2 channels of 24 bits, at the rate of the run.
-- "Files of a save" in docs/formats.md.
use Rattle.std.specs.Prelude.{ℕ, ◌+◌, List, [], ◌∷◌, ◌++◌, Option}
use Rattle.sl_base.specs.Sounds.{Sound}
use Rattle.sl_commands.specs.declared.Target.{Target}
use Rattle.sl_commands.specs.declared.Target.TheVariants.{All}
use Rattle.sl_commands.specs.Settings.{LooperSettings}
use Rattle.sl_commands.specs.Blocks.{first_index}
use Rattle.sl_ports.specs.Files.{Files, put_told}
use Rattle.wav_pcm.specs.WavText.{wav_text}
use Rattle.session_file.specs.Parts.{part_name}
use Rattle.session_file.specs.Sessions.{session_text}
use Rattle.looper_rules.specs.Saves.{Save}

-- a file that is to be written
pub record SavedFile : Type 0 where
  pub name : List ℕ
  pub bytes : List ℕ

-- the name of the file of a save's list of this index
abbrev pub list_name : Target → List ℕ → ℕ → List ℕ
list_name All name index = part_name name index
list_name _ name index = name

-- the file of a list, and none of an empty one
abbrev pub list_file : ℕ → List ℕ → List Sound → List SavedFile
list_file rate name [] = []
list_file rate name (x ∷ xs) = record { name = name; bytes = wav_text (x ∷ xs) 2 24 rate } ∷ []

-- the files of lists, of which the first has this index
abbrev pub list_files : ℕ → Target → List ℕ → ℕ → List (List Sound) → List SavedFile
list_files rate target name index [] = []
list_files rate target name index (list ∷ lists) =
    list_file rate (list_name target name index) list
    ++ list_files rate target name (index + 1) lists

-- the text of a session's save
abbrev pub text_file : Target → List ℕ → LooperSettings → List SavedFile
text_file All name settings = record { name = name; bytes = session_text settings } ∷ []
text_file _ name settings = []

-- the files of a save, in the order in which they are written
abbrev pub files_of : ℕ → Target → List ℕ → LooperSettings → List (List Sound) → List SavedFile
files_of rate target name settings lists =
    list_files rate target name (first_index target) lists ++ text_file target name settings

abbrev pub files_of_save : ℕ → Save → List SavedFile
files_of_save rate s = files_of rate s.target s.name s.settings s.lists

-- the files of all these saves
abbrev pub files_for_all : ℕ → List Save → List SavedFile
files_for_all rate [] = []
files_for_all rate (s ∷ saves) = files_of_save rate s ++ files_for_all rate saves

-- what a keeper has after these files were written one after another
abbrev pub put_all : List SavedFile → Option Files → Option Files
put_all [] files = files
put_all (f ∷ fs) files = put_all fs (put_told files f.name f.bytes)
