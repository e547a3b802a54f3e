-- How an engine and a saver stand while a session is settled: the engine behind what passed its
-- rings, with nothing held; the saver behind the blocks that it was fed.
-- "Settling" in docs/rules.md.
use Rattle.std.specs.Prelude.{◌≡◌, ◌≤◌, ◌<◌, ◌+◌, ℕ, zero, suc, List, [], ◌∷◌, ◌++◌, length, Option, Some, option_to_list, IsTrue}
use Rattle.sl_commands.specs.declared.Block.{Block}
use Rattle.sl_commands.specs.declared.Command.{Command}
use Rattle.sl_commands.specs.Blocks.{may_follow}
use Rattle.sl_commands.specs.Commands.{is_outcome}
use Rattle.looper_rules.specs.SaveBlocks.{ends_in}
use Rattle.loop_saver.specs.Savers.{SavingOf}
use Rattle.loop_saver.specs.Keeping.{HasCome}
use Rattle.event_rings.specs.Ends.{BothEnds}
use Rattle.engine_steps.specs.Engines.{EngineOf}
use Rattle.live_steps.specs.Passed.{Passed}
use Rattle.live_goes.specs.Going.{Stands}

-- the commands of sender 0 or 1 that passed
abbrev pub taken_by : ℕ → Passed → List Command
taken_by zero p = p.osc
taken_by (suc sender) p = p.midi

-- commands of this sender may be taken: the engine stands behind what was taken of their ring, and
-- no more were sent than the quota
pub record MayCommand (sender : ℕ) (e : EngineOf) (m : BothEnds Command) : Type 0 where
  pub passed : Passed
  pub stands : Stands e passed
  pub taken : taken_by sender passed ≡ m.taken
  pub few : length m.sent ≤ e.journal.quota

-- the engine stands behind these outcomes and blocks
pub record StandsBehind (e : EngineOf) (outcomes : List ℕ) (blocks : List Block) : Type 0 where
  pub passed : Passed
  pub stands : Stands e passed
  pub saver : passed.saver ≡ outcomes
  pub blocks_are : passed.blocks ≡ blocks

-- the outcome of one more save is owed: fewer were taken than saves ended in the blocks
pub record IsOwed (e : EngineOf) : Type 0 where
  pub outcomes : List ℕ
  pub blocks : List Block
  pub stands : StandsBehind e outcomes blocks
  pub more : length outcomes < ends_in blocks

-- the outcomes that are left in their ring may be taken: each save that they answer has ended
pub record MayRelease (e : EngineOf) (m : BothEnds ℕ) : Type 0 where
  pub blocks : List Block
  pub stands : StandsBehind e m.taken blocks
  pub few : length m.sent ≤ ends_in blocks

-- the saver is where the blocks lead that it was fed, of those that were sent, and the engine has
-- the outcome of each save that ended in them
pub record IsServed (e : EngineOf) (saving : Option SavingOf) (fed sent : List Block) : Type 0 where
  pub outcomes : List ℕ
  pub stands : StandsBehind e outcomes sent
  pub each : length outcomes ≡ ends_in fed
  pub saves : ℕ
  pub come : HasCome saving fed saves

-- a block may be fed: it follows those that were, and if a save ends in it, its outcome is owed
-- then
pub record MayFeed (e : EngineOf) (saving : Option SavingOf) (b : Block) : Type 0 where
  pub fed : List Block
  pub sent : List Block
  pub bound : ℕ
  pub served : IsServed e saving fed sent
  pub follows : IsTrue (may_follow fed b bound)
  pub ends : ends_in (fed ++ b ∷ []) ≤ ends_in sent

-- what is left of commands and outcomes may be taken, and then the outcome that is held
pub record MayTakeLeft (e : EngineOf) (osc midi : BothEnds Command) (saver : BothEnds ℕ)
    (outcome : Option ℕ) : Type 0 where
  pub passed : Passed
  pub stands : Stands e passed
  pub osc_taken : passed.osc ≡ osc.taken
  pub midi_taken : passed.midi ≡ midi.taken
  pub saver_taken : passed.saver ≡ saver.taken
  pub osc_few : length osc.sent ≤ e.journal.quota
  pub midi_few : length midi.sent ≤ e.journal.quota
  pub ends : length saver.sent + length (option_to_list outcome) ≤ ends_in passed.blocks
  pub outcome_is : (o : ℕ) → outcome ≡ Some o → IsTrue (is_outcome o)
