-- A saver accepts blocks one after another, and each save that ends gives its outcome. So the files
-- of saves are written save after save: all of one that ends with 0, the first of another. An
-- outcome 1 tells of a write that failed, so there are at most as many as by which the count of
-- failed writes rose.
-- "Files of a save" in docs/formats.md.
use Rattle.std.specs.Prelude.{◌≡◌, ℕ, ◌+◌, ◌==◌, List, [], ◌∷◌, ◌++◌, Option, Some, if◌then◌else◌}
use Rattle.sl_commands.specs.declared.Block.{Block}
use Rattle.sl_commands.specs.Blocks.{place_of}
use Rattle.sl_ports.specs.declared.keepers.Keeper.{Ghosts as Keeper}
use Rattle.looper_rules.specs.Saves.{Save}
use Rattle.loop_saver.specs.declared.ending.Ending.{Ending}
use Rattle.loop_saver.specs.declared.saver.Saved.{Saved}
use Rattle.loop_saver.specs.declared.saver.Saved.TheVariants.{Continue, Finished}
use Rattle.loop_saver.specs.SavedFiles.{SavedFile, files_of_save}
use Rattle.loop_saver.specs.Savers.{SavingOf, underway_in, ending_number}
use Rattle.loop_saver.specs.Accepting.{Writes, Accepts}

-- the outcome that an answer gives
abbrev pub outcome_in : Saved → List ℕ
outcome_in Continue = []
outcome_in (Finished target outcome) = outcome ∷ []

-- a block is accepted, and then what follows is so
pub record KeepsOn {P : Type 0} (k : Keeper P) (rate : ℕ) (b : Block) (saving : Option SavingOf)
    (old : P) (outs : List ℕ) (Follows : Option SavingOf → P → List ℕ → Type 0) : Type 0 where
  pub mid : Option SavingOf
  pub now : P
  pub answer : Saved
  pub more : List ℕ
  pub accepts : Accepts k rate b saving mid old now answer
  pub gave : outs ≡ outcome_in answer ++ more
  pub behind : Follows mid now more

-- these blocks are accepted one after another, and give these outcomes
abbrev pub Keeps : {P : Type 0} → Keeper P → ℕ → List Block → Option SavingOf → P → List ℕ →
    Option SavingOf → P → Type 0
Keeps k rate [] saving old outs after new = (outs ≡ []) × (after ≡ saving) × (new ≡ old)
Keeps k rate (b ∷ bs) saving old outs after new =
    KeepsOn k rate b saving old outs (λ mid now more. Keeps k rate bs mid now more after new)

-- the saver has come as far as these blocks, of so many whole saves
pub record HasCome (saving : Option SavingOf) (blocks : List Block) (saves : ℕ) : Type 0 where
  pub place : place_of blocks ≡ Some (record { saves = saves; underway = underway_in saving })

-- the files of one save are written, by its outcome
pub record WroteSave {P : Type 0} (k : Keeper P) (fs : List SavedFile) (old new : P)
    (outcome : ℕ) : Type 0 where
  pub ending : Ending
  pub is : outcome ≡ ending_number ending
  pub writes : Writes k fs old new ending

-- the files of the first save are, and then those of the others
pub record WroteFirst {P : Type 0} (k : Keeper P) (fs : List SavedFile) (old : P) (outcome : ℕ)
    (Others : P → Type 0) : Type 0 where
  pub now : P
  pub first : WroteSave k fs old now outcome
  pub others : Others now

-- the files of these saves are, one save after another, each by its outcome
abbrev pub WroteSaves : {P : Type 0} → Keeper P → ℕ → List Save → P → List ℕ → P → Type 0
WroteSaves k rate [] old outs new = (outs ≡ []) × (new ≡ old)
WroteSaves k rate (s ∷ saves) old [] new = ⊥
WroteSaves k rate (s ∷ saves) old (o ∷ outs) new =
    WroteFirst k (files_of_save rate s) old o (λ now. WroteSaves k rate saves now outs new)

-- how many of these outcomes tell of a write that failed
abbrev pub failed_in : List ℕ → ℕ
failed_in [] = 0
failed_in (o ∷ outs) = (if o == 1 then 1 else 0) + failed_in outs
