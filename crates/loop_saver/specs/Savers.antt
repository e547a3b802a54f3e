-- A saver holds the list of which parts come. A part of another list, and the end, show that a list
-- is whole: then its file is due. At the end of a session's save its text is due behind that.
-- From the first file that isn't written the rest of a save makes no file due, and no frame is
-- held.
-- "Files of a save" in docs/formats.md.
use Rattle.std.specs.Prelude.{◌≡◌, ◌≤◌, ℕ, Bool, true, ◌&&◌, ◌==◌, if◌then◌else◌, List, [], ◌∷◌, ◌++◌, length, Option, Some, None, is_some}
use Rattle.sl_base.specs.Limits.{max_list_frames}
use Rattle.sl_base.specs.Sounds.{Sound}
use Rattle.sl_commands.specs.declared.Target.{Target}
use Rattle.sl_commands.specs.declared.Block.{Block}
use Rattle.sl_commands.specs.declared.Block.TheVariants.{Head, Part, End}
use Rattle.sl_commands.specs.Settings.{LooperSettings}
use Rattle.sl_commands.specs.Blocks.{Underway, first_index, place_after, with_part, save_of, fits_name, fits_target}
use Rattle.loop_saver.specs.declared.ending.Ending.{Ending}
use Rattle.loop_saver.specs.declared.ending.Ending.TheVariants.{Written, Failed, Memory}
use Rattle.loop_saver.specs.SavedFiles.{SavedFile, list_name, list_file, text_file}

-- the number that answers a save which ended so
abbrev pub ending_number : Ending → ℕ
ending_number Written = 0
ending_number Failed = 1
ending_number Memory = 4

-- a save underway: its name, its settings, how far its blocks have come, the frames of the latest
-- list, and whether all that was due is written
pub record SavingOf : Type 0 where
  pub name : List ℕ
  pub settings : LooperSettings
  pub underway : Underway
  pub held : List Sound
  pub ending : Ending

-- what contracts see of a saver: its rate, and the save underway
pub record SaverOf : Type 0 where
  pub rate : ℕ
  pub saving : Option SavingOf

-- a save that has just begun
abbrev pub begins : List ℕ → Target → LooperSettings → SavingOf
begins name target settings =
    record {
      name = name;
      settings = settings;
      underway = record {
        target = target;
        loops = length settings.strips;
        index =
            first_index target;
        frames = 0;
      };
      held = [];
      ending = Written;
    }

-- how far its blocks have come
abbrev pub underway_in : Option SavingOf → Option Underway
underway_in None = None
underway_in (Some s) = Some s.underway

-- the block is one that may come next
abbrev pub may_come : Option SavingOf → Block → Bool
may_come saving b = is_some (place_after (save_of b) (underway_in saving) b) && fits_name b

-- the file of the list that is held
abbrev pub held_file : ℕ → SavingOf → List SavedFile
held_file rate s = list_file rate (list_name s.underway.target s.name s.underway.index) s.held

-- the files that are due at a part of the list of this index
abbrev pub due_at_part : ℕ → ℕ → SavingOf → List SavedFile
due_at_part rate index s = if index == s.underway.index then [] else held_file rate s

-- the files that are due at the end
abbrev pub due_at_end : ℕ → SavingOf → List SavedFile
due_at_end rate s = held_file rate s ++ text_file s.underway.target s.name s.settings

-- what is held where all that was due is written, and else nothing
abbrev pub held_by : Ending → List Sound → List Sound
held_by Written frames = frames
held_by _ frames = []

-- what is held behind a part of the list of this index
abbrev pub held_with : ℕ → List Sound → SavingOf → List Sound
held_with index frames s = if index == s.underway.index then s.held ++ frames else frames

-- the save with a part, by how its files are written now
abbrev pub with_frames : ℕ → List Sound → Ending → SavingOf → SavingOf
with_frames index frames ending s =
    record s {
      underway = with_part s.underway index (length frames);
      held = held_by ending (held_with index frames s);
      ending = ending;
    }

-- the files that a block makes due
abbrev pub due : ℕ → Option SavingOf → Block → List SavedFile
due rate (Some s) (Part save index frames) = due_at_part rate index s
due rate (Some s) (End save) = due_at_end rate s
due _ _ _ = []

-- the save behind a block, where all that is due is written
abbrev pub behind : Option SavingOf → Block → Option SavingOf
behind saving (Head save name target settings) = Some (begins name target settings)
behind (Some s) (Part save index frames) = Some (with_frames index frames Written s)
behind _ _ = None

-- the files that blocks make due, one after another
abbrev pub due_for_all : ℕ → Option SavingOf → List Block → List SavedFile
due_for_all rate saving [] = []
due_for_all rate saving (b ∷ bs) = due rate saving b ++ due_for_all rate (behind saving b) bs

-- each block may come behind those before it
abbrev pub may_all_come : Option SavingOf → List Block → Bool
may_all_come saving [] = true
may_all_come saving (b ∷ bs) = may_come saving b && may_all_come (behind saving b) bs

-- the save behind blocks
abbrev pub behind_all : Option SavingOf → List Block → Option SavingOf
behind_all saving [] = saving
behind_all saving (b ∷ bs) = behind_all (behind saving b) bs

-- what a saver keeps of a save underway
pub record IsSaving (s : SavingOf) : Type 0 where
  pub frames : s.underway.frames ≤ max_list_frames
  pub held : length s.held ≤ s.underway.frames
  pub named : fits_target s.underway.target s.name ≡ true
