-- A step is one put, one take, or some frames. Each has an outcome, and changes the lists only
-- where it is done, but that a command that finds its ring full is counted.
-- - A command is put, or its ring is full.
-- - Nothing is taken for the engine while a reply is held. A command that is taken is stamped and
--   applied. An outcome is taken as the release of the oldest save that no release has answered. A
--   reply is put on its ring, or held where that is full.
-- - Frames are played, of the world's own input.
-- - A held reply is put, where there is room. A reply is taken, where one waits.
-- - The engine's next block is put, where one is left and there is room. A block is taken and kept
--   in memory; the end of a save has the outcome 0, which is remembered.
-- - The oldest remembered outcome is put, where there is one and room for it.
-- "The world on one thread" in docs/rules.md.
use Rattle.std.specs.Prelude.{◌≡◌, ⊤, ◌≤◌, ◌<◌, ℕ, ◌+◌, Bool, true, false, List, [], ◌∷◌, ◌++◌, length, drop, slice_get, Option, Some, None, option_map, Result, Ok, Err}
use Rattle.sl_base.specs.Counting.{raised}
use Rattle.sl_base.specs.Limits.{max_session_frames}
use Rattle.sl_base.specs.Sounds.{Sound}
use Rattle.sl_base.specs.declared.memory.Memory.{Memory}
use Rattle.sl_commands.specs.declared.Target.{Target}
use Rattle.sl_commands.specs.declared.Command.{Command}
use Rattle.sl_commands.specs.declared.Command.TheVariants.{Release}
use Rattle.sl_commands.specs.declared.Reply.{Reply}
use Rattle.sl_commands.specs.declared.Block.{Block}
use Rattle.sl_commands.specs.declared.Block.TheVariants.{End}
use Rattle.looper_rules.specs.Entries.{reply}
use Rattle.engine_steps.specs.Engines.{EngineOf, entry_of, waiting, first_of, target_of, next_block, took, went_on, put_out, block_sent}
use Rattle.ring_world.specs.declared.lists.Lists.{Lists}
use Rattle.ring_world.specs.declared.step.Step.{Step}
use Rattle.ring_world.specs.declared.step.Step.TheVariants.{PutOsc, PutMidi, TakeOsc, TakeMidi, TakeSaver, Period, ReplyTake, BlockPut, BlockTake, ReplyPut, PutSaver}
use Rattle.ring_world.specs.declared.step.Outcome.{Outcome}
use Rattle.ring_world.specs.declared.step.Outcome.TheVariants.{Done, Full, Empty, Held, Nothing}
use Rattle.ring_world.specs.Rings.{sent, has_room, put_on, next_of, passed_on}
use Rattle.ring_world.specs.Inputs.{input_from}

-- the outcome of a step, and what it leaves
pub record Did : Type 0 where
  pub outcome : Outcome
  pub lists : Lists

-- it is done, and leaves this
abbrev pub done : Lists → Did
done w = record { outcome = Done; lists = w }

-- it isn't done, for this reason, and leaves all as it was
abbrev pub undone : Outcome → Lists → Did
undone why w = record { outcome = why; lists = w }

-- a command that found its ring full
abbrev pub counted_full : Lists → Did
counted_full w = record { outcome = Full; lists = record w { full = raised w.full } }

-- a command is put on the ring of OSC or MIDI, where there is room
abbrev pub put_osc_by : Bool → Command → Lists → Did
put_osc_by true c w = done (record w { osc = put_on c w.osc })
put_osc_by false c w = counted_full w

abbrev pub put_midi_by : Bool → Command → Lists → Did
put_midi_by true c w = done (record w { midi = put_on c w.midi })
put_midi_by false c w = counted_full w

-- a reply is put on its ring, or held where there is no room
abbrev pub replied_by : Bool → Reply → Lists → Lists
replied_by true r w = record w { replies = put_on r w.replies }
replied_by false r w = record w { held = Some r }

abbrev pub replied : Option Reply → Lists → Lists
replied None w = w
replied (Some r) w = replied_by (has_room w.replies) r w

-- a command of a sender is stamped and applied, and its reply is put or held
abbrev pub given : ℕ → Command → Lists → Lists
given sender c w =
    let en = entry_of sender c w.engine
    in replied (reply en w.engine.looper) (record w { engine = took en w.engine })

-- what is next on a ring is given to the engine, where no reply is held; with the lists after the
-- take
abbrev pub take_by : ℕ → Option Reply → Option Command → Lists → Lists → Did
take_by sender (Some r) next w passed = undone Held w
take_by sender None None w passed = undone Empty w
take_by sender None (Some c) w passed = done (given sender c passed)

-- the target of the oldest save that no release has answered
abbrev pub oldest_target : EngineOf → Option Target
oldest_target e = option_map target_of (first_of (waiting e))

-- an outcome is given as the release of this target
abbrev pub released : Option Target → ℕ → Lists → Lists → Did
released None o w passed = undone Nothing w
released (Some target) o w passed = done (given 2 (Release target o) passed)

-- the next outcome is given to the engine, where no reply is held
abbrev pub take_outcome_by : Option Reply → Option ℕ → Lists → Lists → Did
take_outcome_by (Some r) next w passed = undone Held w
take_outcome_by None None w passed = undone Empty w
take_outcome_by None (Some o) w passed = released (oldest_target w.engine) o w passed

-- the held reply is put
abbrev pub put_held_by : Option Reply → Bool → Lists → Did
put_held_by None room w = undone Nothing w
put_held_by (Some r) false w = undone Full w
put_held_by (Some r) true w = done (record w { replies = put_on r w.replies; held = None })

-- a reply is taken
abbrev pub take_reply_by : Option Reply → Lists → Did
take_reply_by None w = undone Empty w
take_reply_by (Some r) w = done (record w { replies = passed_on w.replies })

-- the engine's next block is put
abbrev pub put_block_by : Option Block → Bool → Lists → Did
put_block_by None room w = undone Nothing w
put_block_by (Some b) false w = undone Full w
put_block_by (Some b) true w =
    done (record w { blocks = put_on b w.blocks; engine = block_sent w.engine })

-- the outcome that a block gives once it is kept
abbrev pub outcome_of : Block → List ℕ
outcome_of (End save) = 0 ∷ []
outcome_of _ = []

-- a block is taken and kept
abbrev pub take_block_by : Option Block → Lists → Did
take_block_by None w = undone Empty w
take_block_by (Some b) w =
    done (record w {
      blocks = passed_on w.blocks;
      remembered = w.remembered ++ outcome_of b;
    })

-- the oldest remembered outcome is put
abbrev pub put_outcome_by : Option ℕ → Bool → Lists → Did
put_outcome_by None room w = undone Nothing w
put_outcome_by (Some o) false w = undone Full w
put_outcome_by (Some o) true w =
    done (record w { saver = put_on o w.saver; remembered = drop 1 w.remembered })

-- frames are played
abbrev pub played : List Sound → Lists → Did
played xs w =
    done (record w {
      engine = went_on xs w.engine;
      output = w.output ++ put_out xs w.engine;
    })

-- what a step plays, in a world of this number
abbrev pub heard : Step → ℕ → Lists → List Sound
heard (Period frames) number w = input_from number w.engine.frames frames
heard _ number w = []

-- each step, in a world of this number
abbrev pub did : Step → ℕ → Lists → Did
did (PutOsc c) number w = put_osc_by (has_room w.osc) c w
did (PutMidi c) number w = put_midi_by (has_room w.midi) c w
did TakeOsc number w =
    take_by 0 w.held (next_of w.osc) w (record w { osc = passed_on w.osc })
did TakeMidi number w =
    take_by 1 w.held (next_of w.midi) w (record w { midi = passed_on w.midi })
did TakeSaver number w =
    take_outcome_by w.held (next_of w.saver) w (record w { saver = passed_on w.saver })
did (Period frames) number w = played (input_from number w.engine.frames frames) w
did ReplyPut number w = put_held_by w.held (has_room w.replies) w
did ReplyTake number w = take_reply_by (next_of w.replies) w
did BlockPut number w = put_block_by (next_block w.engine) (has_room w.blocks) w
did BlockTake number w = take_block_by (next_of w.blocks) w
did PutSaver number w = put_outcome_by (slice_get w.remembered 0) (has_room w.saver) w

-- a command may be put while its sender has put fewer than the quota, and so many frames may be
-- played as a session has left
abbrev pub MayDo : Step → Lists → Type 0
MayDo (PutOsc c) w = length (sent w.osc) < w.engine.journal.quota
MayDo (PutMidi c) w = length (sent w.midi) < w.engine.journal.quota
MayDo (Period frames) w = w.engine.frames + frames ≤ max_session_frames
MayDo _ w = ⊤

-- an answer, and the lists behind it, are those of a step; want of memory leaves all as it was
abbrev pub Does : Result Outcome Memory → Lists → Lists → Did → Type 0
Does (Ok outcome) old new d = (outcome ≡ d.outcome) × (new ≡ d.lists)
Does (Err _) old new d = new ≡ old
