-- Each part of settling says how the engine went on, with which replies, and what the saver kept.
-- Such parts compose.
-- "Settling" in docs/rules.md.
use Rattle.std.specs.Prelude.{◌≡◌, ℕ, zero, suc, List, ◌++◌, Option, option_to_list}
use Rattle.sl_commands.specs.declared.Block.{Block}
use Rattle.sl_commands.specs.declared.Command.{Command}
use Rattle.sl_commands.specs.declared.Reply.{Reply}
use Rattle.sl_ports.specs.declared.keepers.Keeper.{Ghosts as Keeper}
use Rattle.loop_saver.specs.Savers.{SavingOf}
use Rattle.loop_saver.specs.Keeping.{Keeps}
use Rattle.event_rings.specs.Ends.{BothEnds}
use Rattle.engine_steps.specs.Engines.{EngineOf}
use Rattle.live_goes.specs.Going.{More, no_more, Goes}
use Rattle.settling.specs.Settled.{IsLeft}

-- these were drained, one after another
pub record HasDrained {T : Type 0} (old new : BothEnds T) (xs : List T) : Type 0 where
  pub taken : new.taken ≡ old.taken ++ xs
  pub sent : new.sent ≡ old.sent
  pub bound : new.bound ≡ old.bound

-- commands of sender 0 or 1, an outcome, a block
abbrev pub more_commands : ℕ → List Command → More
more_commands zero cs = record no_more { osc = cs }
more_commands (suc sender) cs = record no_more { midi = cs }

abbrev pub more_outcomes : List ℕ → More
more_outcomes outs = record no_more { saver = outs }

-- an engine went on by this, and gave these replies
abbrev pub GoesBy : More → List Reply → EngineOf → EngineOf → Type 0
GoesBy m replies e e' = Goes e e' (record m { replies = replies })

-- what is fed, and from what: the save underway, the keeper, and the engine
pub record FedOf (P : Type 0) : Type 0 where
  pub engine : EngineOf
  pub saving : Option SavingOf
  pub keeper : P

-- the same, made of its parts
abbrev pub feeding : {P : Type 0} → EngineOf → Option SavingOf → P → FedOf P
feeding engine saving keeper = record { engine = engine; saving = saving; keeper = keeper }

-- a saver was fed these blocks, of which the engine gave the last itself; the engine took the
-- outcomes that they gave, and gave these replies
pub record Fed {P : Type 0} (k : Keeper P) (rate : ℕ) (blocks given : List Block)
    (replies : List Reply) (s t : FedOf P) : Type 0 where
  pub outcomes : List ℕ
  pub keeps : Keeps k rate blocks s.saving s.keeper outcomes t.saving t.keeper
  pub goes : GoesBy (record no_more { saver = outcomes; blocks = given }) replies s.engine t.engine

-- what was left of commands and outcomes was taken, and then the outcome that was held
pub record TookLeft (e e' : EngineOf) (osc midi : BothEnds Command) (saver : BothEnds ℕ)
    (outcome : Option ℕ) (replies : List Reply) : Type 0 where
  pub osc_left : List Command
  pub midi_left : List Command
  pub releases_left : List ℕ
  pub osc_are : IsLeft osc osc_left
  pub midi_are : IsLeft midi midi_left
  pub releases_are : IsLeft saver releases_left
  pub goes : GoesBy (record no_more {
    osc = osc_left;
    midi = midi_left;
    saver = releases_left ++ option_to_list outcome;
  }) replies e e'
