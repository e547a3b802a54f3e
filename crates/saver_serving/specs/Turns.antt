-- The activity of the saver goes on in turns: a turn puts the outcome that is held, or takes one
-- block and gives it to the saver. It tells whether there was nothing to do.
-- "The activity of the saver" in docs/rules.md.
use Rattle.std.specs.Prelude.{◌≡◌, ⊤, ℕ, Bool, true, false, Option, Some, None, IsTrue}
use Rattle.sl_commands.specs.declared.Block.{Block}
use Rattle.sl_commands.specs.Blocks.{may_follow}
use Rattle.sl_ports.specs.declared.keepers.Keeper.{Ghosts as Keeper}
use Rattle.loop_saver.specs.declared.saver.Saved.{Saved}
use Rattle.loop_saver.specs.Savers.{SavingOf}
use Rattle.loop_saver.specs.Accepting.{Accepts}
use Rattle.event_rings.specs.Ends.{TakeEnd, TakesNext, IsEmpty}
use Rattle.saver_serving.specs.Serving.{ServingOf, HasWaited}

-- what of the activity a take may change: the save underway, the keeper, and the ring of blocks
pub record TakingOf (P : Type 0) : Type 0 where
  pub saving : Option SavingOf
  pub keeper : P
  pub blocks : TakeEnd Block

-- the same, made of its parts
abbrev pub taking : {P : Type 0} → Option SavingOf → P → TakeEnd Block → TakingOf P
taking saving keeper blocks = record { saving = saving; keeper = keeper; blocks = blocks }

-- the next block was taken, and the saver accepted it with this answer
pub record TookOne {P : Type 0} (k : Keeper P) (rate : ℕ) (s t : TakingOf P)
    (answer : Saved) : Type 0 where
  pub block : Block
  pub next : TakesNext (λ sent b bound. IsTrue (may_follow sent b bound)) block s.blocks t.blocks
  pub accepts : Accepts k rate block s.saving t.saving s.keeper t.keeper answer

-- the ring was empty, and nothing else changed
pub record TookNone {P : Type 0} (s t : TakingOf P) : Type 0 where
  pub saving : t.saving ≡ s.saving
  pub keeper : t.keeper ≡ s.keeper
  pub empty : IsEmpty s.blocks t.blocks

-- a take, by what the saver answered where there was a block
abbrev pub Takes : {P : Type 0} → Keeper P → ℕ → TakingOf P → TakingOf P → Option Saved → Type 0
Takes k rate s t None = TookNone s t
Takes k rate s t (Some answer) = TookOne k rate s t answer

-- a turn tells that there was nothing to do only where that is so
abbrev pub WaitedWhere : {P : Type 0} → Bool → ServingOf P → ServingOf P → Type 0
WaitedWhere true s t = HasWaited t.held s t
WaitedWhere false s t = ⊤
