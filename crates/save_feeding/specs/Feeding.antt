-- The blocks of saves go to the saver one after another, until none is left. The files that are due
-- so are written in their order, up to the first that isn't, and that ends all writing.
-- "Files of a save" in docs/formats.md.
use Rattle.std.specs.Prelude.{◌≡◌, ◌≢◌, ℕ, List, Option, Result, Ok, Err}
use Rattle.sl_commands.specs.declared.Block.{Block}
use Rattle.sl_ports.specs.declared.keepers.Keeper.{Ghosts as Keeper}
use Rattle.loop_saver.specs.declared.ending.Ending.TheVariants.{Written, Failed, Memory as Wanted}
use Rattle.loop_saver.specs.SavedFiles.{SavedFile}
use Rattle.loop_saver.specs.Savers.{SavingOf}
use Rattle.loop_saver.specs.Accepting.{Writes}
use Rattle.loop_saver.specs.Coming.{Feeds}
use Rattle.engine_steps.specs.Engines.{EngineOf, Beginning}
use Rattle.engine_steps.specs.InStep.{SoFar, IsInStep}
use Rattle.save_feeding.specs.declared.stopped.Stopped.{Stopped}
use Rattle.save_feeding.specs.declared.stopped.Stopped.TheVariants.{Writing, Memory}

-- what stands where some of the files weren't written
abbrev pub StopsAt : {P : Type 0} → Keeper P → List SavedFile → P → P → Stopped → Type 0
StopsAt k all old now Writing = Writes k all old now Failed
StopsAt k all old now Memory = Writes k all old now Wanted

-- what one block leaves: the saver has come further, or it stops
abbrev pub FeedsOrStops : {P : Type 0} → Keeper P → ℕ → List SavedFile → P → P → Option SavingOf →
    List Block → Result Unit Stopped → Type 0
FeedsOrStops k rate all old now saving rest (Ok _) = Feeds k rate all old now saving rest
FeedsOrStops k rate all old now saving rest (Err why) = StopsAt k all old now why

-- why an outcome stops the writing, or that it doesn't
abbrev pub EndedBy : ℕ → Result Unit Stopped → Type 0
EndedBy outcome (Ok _) = outcome ≡ 0
EndedBy outcome (Err Writing) = outcome ≡ 1
EndedBy outcome (Err Memory) = (outcome ≢ 0) × (outcome ≢ 1)

-- what became of all files that were due: they are written, or the first of them
abbrev pub WritesAll : {P : Type 0} → Keeper P → List SavedFile → P → P → Result Unit Stopped →
    Type 0
WritesAll k all old now (Ok _) = Writes k all old now Written
WritesAll k all old now (Err why) = StopsAt k all old now why

-- an engine is in step with something
pub record IsSomehowInStep (e : EngineOf) : Type 0 where
  pub beginning : Beginning
  pub so_far : SoFar
  pub step : IsInStep beginning so_far e

-- it is in step with the same, but for the blocks that were sent
pub record SentOn (b : Beginning) (s : SoFar) (e : EngineOf) : Type 0 where
  pub sent : List Block
  pub step : IsInStep b (record s { sent = sent }) e
