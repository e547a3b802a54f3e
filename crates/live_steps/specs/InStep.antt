-- Engine and rings are in step where these hold.
-- - The engine is in step with the frames that went in and came out, the replies that were put or
--   are held, the blocks that were put, and the saves: those that releases answered, and behind
--   them those that wait.
-- - What was taken from the rings of OSC and MIDI is their commands in the journal, in order.
-- - What was taken from the saver's ring is the outcomes of its releases in the journal, one for
--   each save that was answered, oldest first. Each release stands behind its save.
-- The activity of audio and the world of rings as lists keep this.
-- "The engine between its rings" in docs/rules.md.
use Rattle.std.specs.Prelude.{◌≡◌, ◌≤◌, ◌<◌, ◌+◌, ℕ, List, ◌∷◌, ◌++◌, length}
use Rattle.sl_base.specs.Sounds.{Sound}
use Rattle.sl_commands.specs.declared.Entry.{Entry}
use Rattle.sl_commands.specs.Entries.{entries_of, commands_of}
use Rattle.looper_rules.specs.Looper.{Looper}
use Rattle.looper_rules.specs.Saves.{Save}
use Rattle.looper_rules.specs.Reached.{IsBeginning}
use Rattle.run_laws.specs.Places.{run_before}
use Rattle.engine_steps.specs.Engines.{EngineOf, Beginning, first_looper, waiting}
use Rattle.engine_steps.specs.InStep.{SoFar, IsInStep}
use Rattle.live_steps.specs.Passed.{Passed, all_replies, releases_of}

-- what went in and came out of an engine whose ends these passed
abbrev pub so_far : List Sound → List Sound → List Save → EngineOf → Passed → SoFar
so_far input output answered e p =
    record {
      input = input;
      output = output;
      replies = all_replies p;
      saves = answered ++ waiting e;
      sent = p.blocks;
    }

-- each release stands behind the save that it answers: before it are more saves than releases
abbrev pub AreBehindTheirSaves : Looper → List Sound → List Entry → Type 0
AreBehindTheirSaves l input es =
    (before : List Entry) (e : Entry) (after : List Entry) → es ≡ before ++ e ∷ after →
    e.sender ≡ 2 →
    length (entries_of 2 before) < length (run_before before e input l).saves

-- engine and rings are in step with the frames that went in and came out
pub record AreInStep (b : Beginning) (input output : List Sound) (e : EngineOf)
    (p : Passed) : Type 0 where
  pub begins : IsBeginning b.settings b.chunks b.initial
  pub answered : List Save
  pub engine : IsInStep b (so_far input output answered e p) e
  pub osc : commands_of 0 e.journal.entries ≡ p.osc
  pub midi : commands_of 1 e.journal.entries ≡ p.midi
  pub saver : commands_of 2 e.journal.entries ≡ releases_of answered p.saver
  pub each : length answered ≡ length p.saver
  pub behind : AreBehindTheirSaves (first_looper b) input e.journal.entries
  -- no other sender has entries
  pub senders : length e.journal.entries ≡ length p.osc + length p.midi + length p.saver

-- whatever they were in step with, they are so after a step without frames
abbrev pub StayInStep : EngineOf → Passed → EngineOf → Passed → Type 0
StayInStep e p next more =
    (b : Beginning) (input output : List Sound) → AreInStep b input output e p →
    AreInStep b input output next more

-- and after a step over these frames, with these frames more
abbrev pub GoOnInStep : List Sound → List Sound → EngineOf → Passed → EngineOf → Passed → Type 0
GoOnInStep xs out e p next more =
    (b : Beginning) (input output : List Sound) → AreInStep b input output e p →
    AreInStep b (input ++ xs) (output ++ out) next more

-- they are in step with some frames
abbrev pub AreInSomeStep : EngineOf → Passed → Type 0
AreInSomeStep e p =
    (b : Beginning) × (input : List Sound) × (output : List Sound) × AreInStep b input output e p
