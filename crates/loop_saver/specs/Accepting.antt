-- Files are written one after another, up to the first that isn't: the keeper's count of writes
-- rose there, or memory was wanted. A file whose write failed isn't written later, and none behind
-- it is. A save ends 0 where all its files are written, 1 where a write failed since its head, and
-- 4 where memory was wanted, also behind all its files.
-- "Files of a save" in docs/formats.md.
use Rattle.std.specs.Prelude.{◌≡◌, ◌⊎◌, ℕ, List, ◌∷◌, ◌++◌, Option, Some, None}
use Rattle.sl_base.specs.Counting.{Rose}
use Rattle.sl_commands.specs.declared.Block.{Block}
use Rattle.sl_commands.specs.declared.Block.TheVariants.{Head, Part, End}
use Rattle.sl_ports.specs.Files.{Files}
use Rattle.sl_ports.specs.declared.keepers.Keeper.{Ghosts as Keeper}
use Rattle.loop_saver.specs.declared.ending.Ending.{Ending}
use Rattle.loop_saver.specs.declared.ending.Ending.TheVariants.{Written, Failed, Memory}
use Rattle.loop_saver.specs.declared.saver.Saved.{Saved}
use Rattle.loop_saver.specs.declared.saver.Saved.TheVariants.{Continue, Finished}
use Rattle.loop_saver.specs.SavedFiles.{SavedFile, put_all}
use Rattle.loop_saver.specs.Savers.{SavingOf, begins, due_at_part, due_at_end, with_frames, ending_number}

-- the first of some files were written, and no other file changed
pub record WritesFirst (fs : List SavedFile) (old new : Option Files) : Type 0 where
  pub written : List SavedFile
  pub rest : List SavedFile
  pub whole : fs ≡ written ++ rest
  pub files : new ≡ put_all written old

-- the same where one file is left at least: it isn't written, and none behind it is
pub record StopsWriting (fs : List SavedFile) (old new : Option Files) : Type 0 where
  pub written : List SavedFile
  pub next : SavedFile
  pub rest : List SavedFile
  pub whole : fs ≡ written ++ next ∷ rest
  pub files : new ≡ put_all written old

-- what writing files one after another does to a keeper, by how it ended
abbrev pub Writes : {P : Type 0} → Keeper P → List SavedFile → P → P → Ending → Type 0
Writes k fs old new Written = (k.files new ≡ put_all fs (k.files old))
    × (k.write_faults new ≡ k.write_faults old)
Writes k fs old new Failed = StopsWriting fs (k.files old) (k.files new)
    × Rose (k.write_faults old) (k.write_faults new)
Writes k fs old new Memory = WritesFirst fs (k.files old) (k.files new)
    × (k.write_faults new ≡ k.write_faults old)

-- the same in a save that has come so far: behind what wasn't written nothing is
abbrev pub GoesOn : {P : Type 0} → Keeper P → List SavedFile → P → P → Ending → Ending → Type 0
GoesOn k fs old new Written now = Writes k fs old new now
GoesOn k fs old new Failed now = (now ≡ Failed) × (new ≡ old)
GoesOn k fs old new Memory now = (now ≡ Memory) × (new ≡ old)

-- what holding frames may do to how a save goes: memory may be wanted where it went well
abbrev pub MayWant : Ending → Ending → Type 0
MayWant Written now = (now ≡ Written) ⊎ (now ≡ Memory)
MayWant before now = now ≡ before

-- what a part does: the file of a list that it shows to be whole is written, and its frames are
-- held
pub record TakesPart {P : Type 0} (k : Keeper P) (fs : List SavedFile) (old new : P)
    (before : SavingOf) (after : Option SavingOf) (with_ending : Ending → SavingOf) : Type 0 where
  pub ending : Ending
  pub writes : GoesOn k fs old new before.ending ending
  pub saving : after ≡ Some (with_ending ending)

-- what an end does: the files that are left are written, and the save is over
pub record TakesEnd {P : Type 0} (k : Keeper P) (fs : List SavedFile) (old new : P)
    (before : SavingOf) (after : Option SavingOf) (answer : Saved) : Type 0 where
  pub ending : Ending
  pub writes : GoesOn k fs old new before.ending ending
  pub over : after ≡ None
  pub answer_is : answer ≡ Finished before.underway.target (ending_number ending)

-- what a saver at this rate does with a block, to its save and to the keeper
abbrev pub Accepts : {P : Type 0} → Keeper P → ℕ → Block → Option SavingOf → Option SavingOf → P →
    P → Saved → Type 0
Accepts k rate (Head save name target settings) before after old new answer =
    (after ≡ Some (begins name target settings)) × (new ≡ old) × (answer ≡ Continue)
Accepts k rate (Part save index frames) (Some s) after old new answer =
    TakesPart k (due_at_part rate index s) old new s after
    (λ ending. with_frames index frames ending s) × (answer ≡ Continue)
Accepts k rate (Part save index frames) None after old new answer = ⊥
Accepts k rate (End save) (Some s) after old new answer =
    TakesEnd k (due_at_end rate s) old new s after answer
Accepts k rate (End save) None after old new answer = ⊥
