-- The blocks of saves make files due one after another. These are written in their order, up to the
-- first that isn't, and that ends the writing of its save.
-- "Files of a save" in docs/formats.md.
use Rattle.std.specs.Prelude.{◌≡◌, ℕ, ◌++◌, IsTrue, List, Option, Some, None}
use Rattle.sl_commands.specs.declared.Block.{Block}
use Rattle.sl_ports.specs.declared.keepers.Keeper.{Ghosts as Keeper}
use Rattle.loop_saver.specs.declared.ending.Ending.{Ending}
use Rattle.loop_saver.specs.declared.ending.Ending.TheVariants.{Written, Failed, Memory}
use Rattle.loop_saver.specs.SavedFiles.{SavedFile}
use Rattle.loop_saver.specs.Savers.{SavingOf, underway_in, due_for_all, may_all_come, behind_all}
use Rattle.loop_saver.specs.Accepting.{Writes}

-- how a save goes so far
abbrev pub ending_in : Option SavingOf → Ending
ending_in None = Written
ending_in (Some s) = s.ending

-- all files that were due so far are written, and what is left makes the rest due
pub record WroteSoFar {P : Type 0} (k : Keeper P) (rate : ℕ) (all : List SavedFile) (old now : P)
    (saving : Option SavingOf) (rest : List Block) : Type 0 where
  pub done : List SavedFile
  pub whole : all ≡ done ++ due_for_all rate saving rest
  pub written : Writes k done old now Written

-- how far the files have come, with these blocks left, by how the save goes
abbrev pub HasWritten : {P : Type 0} → Keeper P → ℕ → List SavedFile → P → P → Ending →
    Option SavingOf → List Block → Type 0
HasWritten k rate all old now Written saving rest = WroteSoFar k rate all old now saving rest
HasWritten k rate all old now Failed saving rest = Writes k all old now Failed
HasWritten k rate all old now Memory saving rest = Writes k all old now Memory

-- these blocks may come, and end with a save's end
pub record MayEnd (saving : Option SavingOf) (rest : List Block) : Type 0 where
  pub may : IsTrue (may_all_come saving rest)
  pub over : underway_in (behind_all saving rest) ≡ None

-- the saver has come so far, with these blocks left
pub record Feeds {P : Type 0} (k : Keeper P) (rate : ℕ) (all : List SavedFile) (old now : P)
    (saving : Option SavingOf) (rest : List Block) : Type 0 where
  pub files : HasWritten k rate all old now (ending_in saving) saving rest
  pub may : MayEnd saving rest
