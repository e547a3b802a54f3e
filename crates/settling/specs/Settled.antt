-- Settling ends a session, once its four activities have returned and the two ends of each ring
-- have met. Replies that are left in their ring are told, and then the one that is held. The engine
-- takes the commands of OSC and of MIDI that are left, and the outcomes that are left, with the one
-- that is held behind them. The saver gets the blocks that are left in their ring, and behind them
-- those that the engine has left, and the engine the outcome of each save that ends in them. Each
-- reply is told as it comes. Nothing is left then, and each save has its release.
-- "Settling" in docs/rules.md.
use Rattle.std.specs.Prelude.{◌≡◌, ◌≤◌, ℕ, ◌+◌, List, [], ◌++◌, length, Option, Some, option_to_list, IsTrue}
use Rattle.sl_commands.specs.declared.Block.{Block}
use Rattle.sl_commands.specs.declared.Command.{Command}
use Rattle.sl_commands.specs.declared.Reply.{Reply}
use Rattle.sl_commands.specs.Commands.{is_outcome}
use Rattle.sl_ports.specs.declared.keepers.Keeper.{Ghosts as Keeper}
use Rattle.loop_saver.specs.Savers.{SavingOf}
use Rattle.loop_saver.specs.Keeping.{Keeps, HasCome}
use Rattle.event_rings.specs.Ends.{BothEnds}
use Rattle.engine_steps.specs.Engines.{EngineOf, waiting, left}
use Rattle.live_steps.specs.Passed.{Passed}
use Rattle.live_steps.specs.InStep.{AreInSomeStep}
use Rattle.live_goes.specs.Going.{Goes}
use Rattle.live_rings.specs.declared.meeting.MetRings.{MetRings}

-- what the activities gave back beside the rings: the engine and the reply that audio held, the
-- save underway, the keeper and the outcome that the saver held, and the replies that were told
-- before
pub record UnsettledOf (P : Type 0) : Type 0 where
  pub engine : EngineOf
  pub reply : Option Reply
  pub saving : Option SavingOf
  pub keeper : P
  pub outcome : Option ℕ
  pub told : List Reply

-- the same, made of its parts
abbrev pub unsettled : {P : Type 0} → EngineOf → Option Reply → Option SavingOf → P → Option ℕ →
    List Reply → UnsettledOf P
unsettled engine reply saving keeper outcome told =
    record {
      engine = engine;
      reply = reply;
      saving = saving;
      keeper = keeper;
      outcome = outcome;
      told = told;
    }

-- what is left in the rings
pub record LeftOf : Type 0 where
  pub osc : List Command
  pub midi : List Command
  pub releases : List ℕ
  pub replies : List Reply
  pub blocks : List Block

-- what is settled, and comes out of it: the engine, the save underway, the keeper, and the replies
-- that were told
pub record SettledOf (P : Type 0) : Type 0 where
  pub engine : EngineOf
  pub saving : Option SavingOf
  pub keeper : P
  pub told : List Reply

-- the same, made of its parts
abbrev pub settling : {P : Type 0} → EngineOf → Option SavingOf → P → List Reply → SettledOf P
settling engine saving keeper told =
    record { engine = engine; saving = saving; keeper = keeper; told = told }

-- this is left in a ring: sent is taken, followed by it
abbrev pub IsLeft : {T : Type 0} → BothEnds T → List T → Type 0
IsLeft met xs = met.sent ≡ met.taken ++ xs

-- this is left in the rings
pub record AreLeft (m : MetRings) (xs : LeftOf) : Type 0 where
  pub osc : IsLeft m.osc xs.osc
  pub midi : IsLeft m.midi xs.midi
  pub releases : IsLeft m.saver xs.releases
  pub replies : IsLeft m.replies xs.replies
  pub blocks : IsLeft m.blocks xs.blocks

-- what passed the ends of audio
abbrev pub passed_rings : MetRings → Option Reply → Passed
passed_rings m reply =
    record {
      osc = m.osc.taken;
      midi = m.midi.taken;
      saver = m.saver.taken;
      replies = m.replies.sent;
      held = reply;
      blocks = m.blocks.sent;
    }

-- a session may be settled: engine and rings are in step, no sender sent more than the quota, and
-- the saver is where the blocks lead that it took, with one outcome put or held for each save that
-- ended in them
pub record MaySettle {P : Type 0} (s : UnsettledOf P) (m : MetRings) : Type 0 where
  pub rings : LeftOf
  pub left : AreLeft m rings
  pub step : AreInSomeStep s.engine (passed_rings m s.reply)
  pub osc : length m.osc.sent ≤ s.engine.journal.quota
  pub midi : length m.midi.sent ≤ s.engine.journal.quota
  pub saves : ℕ
  pub come : HasCome s.saving m.blocks.taken saves
  pub each : length m.saver.sent + length (option_to_list s.outcome) ≡ saves
  pub outcome : (o : ℕ) → s.outcome ≡ Some o → IsTrue (is_outcome o)

-- a session was settled, of which this was left in the rings
pub record Settled {P : Type 0} (k : Keeper P) (rate : ℕ) (s : UnsettledOf P) (rings : LeftOf)
    (t : SettledOf P) : Type 0 where
  -- the blocks that the engine still gave, the outcomes of the saves that ended, and the replies
  pub blocks : List Block
  pub outcomes : List ℕ
  pub replies : List Reply
  pub goes : Goes s.engine t.engine
      (record {
        osc = rings.osc;
        midi = rings.midi;
        saver = rings.releases ++ (option_to_list s.outcome ++ outcomes);
        replies = replies;
        blocks = blocks;
      })
  pub keeps : Keeps k rate (rings.blocks ++ blocks) s.saving s.keeper outcomes t.saving t.keeper
  pub told : t.told ≡ s.told ++ (rings.replies ++ (option_to_list s.reply ++ replies))
  pub none_left : left t.engine ≡ []
  pub all_answered : waiting t.engine ≡ []
