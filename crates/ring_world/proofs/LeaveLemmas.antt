-- What steps leave as it was, and by how little they change what is limited.
use Rattle.std.proofs.Common.{◌≡◌, ℕ, zero, suc, ◌+◌, ◌*◌, ◌%◌, ◌/◌, ◌^◌, ◌≤◌, Bool, true, false, [], ◌∷◌, length, refl, ap, ◌∙◌, arith, length-append}
use Rattle.std.specs.Prelude.{Option, Some, None, slice_get, nat_lt, ◌==◌, if◌then◌else◌}
use Rattle.sl_base.specs.Limits.{max_session_frames}
use Rattle.sl_commands.specs.declared.Target.{Target}
use Rattle.sl_commands.specs.declared.Command.{Command}
use Rattle.sl_commands.specs.declared.Command.TheVariants.{Release}
use Rattle.sl_commands.specs.declared.Reply.{Reply}
use Rattle.sl_commands.specs.declared.Block.{Block}
use Rattle.looper_rules.specs.Entries.{reply}
use Rattle.frame_stamp.specs.Journals.{JournalOf}
use Rattle.engine_steps.specs.Engines.{EngineOf, first_engine, entry_of, next_block, took}
use Rattle.engine_steps.proofs.SentLemmas.{only_sends}
use Rattle.ring_world.specs.declared.lists.Lists.{Lists}
use Rattle.ring_world.specs.declared.step.Step.{Step}
use Rattle.ring_world.specs.declared.step.Step.TheVariants.{PutOsc, PutMidi, TakeOsc, TakeMidi, TakeSaver, Period, ReplyTake, BlockPut, BlockTake, ReplyPut, PutSaver}
use Rattle.ring_world.specs.Rings.{RingOf, sent, has_room, put_on, next_of, passed_on}
use Rattle.ring_world.specs.Inputs.{input_from}
use Rattle.ring_world.specs.Stepping.{put_osc_by, put_midi_by, given, take_by, oldest_target, released, take_outcome_by, put_held_by, take_reply_by, put_block_by, take_block_by, put_outcome_by, did, MayDo}
use Rattle.ring_world.specs.Generating.{osc_command, midi_command, step_by, step_at, steps_from, steps_of, next_state}
use Rattle.ring_world.specs.Worlds.{first_lists}
use Rattle.ring_world.specs.Running.{MayDoAll}
use Rattle.ring_world.specs.Drills.{max_drill_steps, drill_beginning}
use Rattle.ring_world.proofs.RingLemmas.{sent-passed_on, sent-put_on}
use Rattle.ring_world.proofs.KeepLemmas.{same_rest}

-- a step puts one command at most, and plays no more than so many frames
pub record Little (count : ℕ) (w next : Lists) : Type 0 where
  pub quota : next.engine.journal.quota ≡ w.engine.journal.quota
  pub frames : next.engine.frames ≤ w.engine.frames + count
  pub osc : length (sent next.osc) ≤ length (sent w.osc) + 1
  pub midi : length (sent next.midi) ≤ length (sent w.midi) + 1

nothing_new : (w : Lists) → Little 0 w w
nothing_new w =
    record { quota = refl; frames = omega arith; osc = omega arith; midi = omega arith }

one_more : {A : Type 0} (x : A) (r : RingOf A) → length (sent (put_on x r)) ≡ length (sent r) + 1
one_more x r = ap length (sent-put_on x r) ∙ length-append (sent r) (x ∷ [])

little_osc : (room : Bool) (c : Command) (w : Lists) → Little 0 w (put_osc_by room c w).lists
little_osc true c w =
    let one = one_more c w.osc
    in record { quota = refl; frames = omega arith; osc = omega arith; midi = omega arith }
little_osc false c w =
    record { quota = refl; frames = omega arith; osc = omega arith; midi = omega arith }

little_midi : (room : Bool) (c : Command) (w : Lists) → Little 0 w (put_midi_by room c w).lists
little_midi true c w =
    let one = one_more c w.midi
    in record { quota = refl; frames = omega arith; osc = omega arith; midi = omega arith }
little_midi false c w =
    record { quota = refl; frames = omega arith; osc = omega arith; midi = omega arith }

little_given : (sender : ℕ) (c : Command) (w moved : Lists) → moved.engine ≡ w.engine →
    length (sent moved.osc) ≡ length (sent w.osc) →
    length (sent moved.midi) ≡ length (sent w.midi) → Little 0 w (given sender c moved)
little_given sender c w moved same osc midi =
    let en = entry_of sender c moved.engine
    in let applied : Lists = record moved { engine = took en moved.engine }
    in let rest = same_rest (reply en moved.engine.looper) applied
    in let before = ap (λ (e : EngineOf). e.frames) same
    in let after = ap (λ (e : EngineOf). e.frames) rest.engine
    in let osc_rest = ap (λ (r : RingOf Command). length (sent r)) rest.osc
    in let midi_rest = ap (λ (r : RingOf Command). length (sent r)) rest.midi
    in record {
      quota = ap (λ (e : EngineOf). e.journal.quota) rest.engine
          ∙ ap (λ (e : EngineOf). e.journal.quota) same;
      frames = omega arith;
      osc = omega arith;
      midi = omega arith;
    }

little_take_osc : (held : Option Reply) (next : Option Command) (w : Lists) →
    Little 0 w (take_by 0 held next w (record w { osc = passed_on w.osc })).lists
little_take_osc (Some r) next w = nothing_new w
little_take_osc None None w = nothing_new w
little_take_osc None (Some c) w =
    little_given 0 c w (record w { osc = passed_on w.osc }) refl
    (ap length (sent-passed_on w.osc)) refl

little_take_midi : (held : Option Reply) (next : Option Command) (w : Lists) →
    Little 0 w (take_by 1 held next w (record w { midi = passed_on w.midi })).lists
little_take_midi (Some r) next w = nothing_new w
little_take_midi None None w = nothing_new w
little_take_midi None (Some c) w =
    little_given 1 c w (record w { midi = passed_on w.midi }) refl refl
    (ap length (sent-passed_on w.midi))

little_released : (target : Option Target) (o : ℕ) (w : Lists) →
    Little 0 w (released target o w (record w { saver = passed_on w.saver })).lists
little_released None o w = nothing_new w
little_released (Some target) o w =
    little_given 2 (Release target o) w (record w { saver = passed_on w.saver }) refl refl refl

little_take_saver : (held : Option Reply) (next : Option ℕ) (w : Lists) →
    Little 0 w (take_outcome_by held next w (record w { saver = passed_on w.saver })).lists
little_take_saver (Some r) next w = nothing_new w
little_take_saver None None w = nothing_new w
little_take_saver None (Some o) w = little_released (oldest_target w.engine) o w

little_put_held : (held : Option Reply) (room : Bool) (w : Lists) →
    Little 0 w (put_held_by held room w).lists
little_put_held None room w = nothing_new w
little_put_held (Some r) false w = nothing_new w
little_put_held (Some r) true w =
    record { quota = refl; frames = omega arith; osc = omega arith; midi = omega arith }

little_take_reply : (next : Option Reply) (w : Lists) → Little 0 w (take_reply_by next w).lists
little_take_reply None w = nothing_new w
little_take_reply (Some r) w =
    record { quota = refl; frames = omega arith; osc = omega arith; midi = omega arith }

little_put_block : (next : Option Block) (room : Bool) (w : Lists) →
    Little 0 w (put_block_by next room w).lists
little_put_block None room w = nothing_new w
little_put_block (Some b) false w = nothing_new w
little_put_block (Some b) true w =
    let now = only_sends w.engine
    in let same = now.frames
    in record {
      quota = ap (λ (j : JournalOf). j.quota) now.journal;
      frames = omega arith;
      osc = omega arith;
      midi = omega arith;
    }

little_take_block : (next : Option Block) (w : Lists) → Little 0 w (take_block_by next w).lists
little_take_block None w = nothing_new w
little_take_block (Some b) w =
    record { quota = refl; frames = omega arith; osc = omega arith; midi = omega arith }

little_put_outcome : (next : Option ℕ) (room : Bool) (w : Lists) →
    Little 0 w (put_outcome_by next room w).lists
little_put_outcome None room w = nothing_new w
little_put_outcome (Some o) false w = nothing_new w
little_put_outcome (Some o) true w =
    record { quota = refl; frames = omega arith; osc = omega arith; midi = omega arith }

pub length-input_from : (number frame count : ℕ) → length (input_from number frame count) ≡ count
length-input_from number frame zero = refl
length-input_from number frame (suc count) =
    ap suc (length-input_from number (frame + 1) count)

-- so many frames that a step plays
abbrev pub frames_of : Step → ℕ
frames_of (Period frames) = frames
frames_of _ = 0

pub little : (step : Step) (number : ℕ) (w : Lists) →
    Little (frames_of step) w (did step number w).lists
little (PutOsc c) number w = little_osc (has_room w.osc) c w
little (PutMidi c) number w = little_midi (has_room w.midi) c w
little TakeOsc number w = little_take_osc w.held (next_of w.osc) w
little TakeMidi number w = little_take_midi w.held (next_of w.midi) w
little TakeSaver number w = little_take_saver w.held (next_of w.saver) w
little (Period frames) number w =
    let long = length-input_from number w.engine.frames frames
    in record { quota = refl; frames = omega arith; osc = omega arith; midi = omega arith }
little ReplyTake number w = little_take_reply (next_of w.replies) w
little BlockPut number w = little_put_block (next_block w.engine) (has_room w.blocks) w
little BlockTake number w = little_take_block (next_of w.blocks) w
little ReplyPut number w = little_put_held w.held (has_room w.replies) w
little PutSaver number w = little_put_outcome (slice_get w.remembered 0) (has_room w.saver) w

-- so many steps more go beyond no limit
pub record Fits (steps : ℕ) (w : Lists) : Type 0 where
  pub osc : length (sent w.osc) + steps ≤ w.engine.journal.quota
  pub midi : length (sent w.midi) + steps ≤ w.engine.journal.quota
  pub frames : w.engine.frames + 64 * steps ≤ max_session_frames

may_fit : (step : Step) (w : Lists) (steps : ℕ) → frames_of step ≤ 64 → Fits (suc steps) w →
    MayDo step w
may_fit (PutOsc c) w steps short fits = let osc = fits.osc in omega arith
may_fit (PutMidi c) w steps short fits = let midi = fits.midi in omega arith
may_fit (Period frames) w steps short fits = let frames = fits.frames in omega arith
may_fit TakeOsc w steps short fits = tt
may_fit TakeMidi w steps short fits = tt
may_fit TakeSaver w steps short fits = tt
may_fit ReplyTake w steps short fits = tt
may_fit BlockPut w steps short fits = tt
may_fit BlockTake w steps short fits = tt
may_fit ReplyPut w steps short fits = tt
may_fit PutSaver w steps short fits = tt

still_fits : (step : Step) (number : ℕ) (w : Lists) (steps : ℕ) → frames_of step ≤ 64 →
    Fits (suc steps) w → Fits steps (did step number w).lists
still_fits step number w steps short fits =
    let few = little step number w
    in let osc = fits.osc
    in let midi = fits.midi
    in let frames = fits.frames
    in let quota = few.quota
    in let more = few.osc
    in let more_midi = few.midi
    in let played_more = few.frames
    in record { osc = omega arith; midi = omega arith; frames = omega arith }

-- each step of a drill plays 64 frames at most
short_if : (b : Bool) (s t : Step) → frames_of s ≤ 64 → frames_of t ≤ 64 →
    frames_of (if b then s else t) ≤ 64
short_if true s t first second = first
short_if false s t first second = second

short_step : (kind w : ℕ) → frames_of (step_by kind w) ≤ 64
short_step kind w =
    let none : 0 ≤ 64 = omega arith
    in let few : 1 + w % 64 ≤ 64 = omega arith
    in let from_16 : Step = if kind == 16 then ReplyPut else PutSaver
    in let from_15 : Step = if kind == 15 then BlockTake else from_16
    in let from_14 : Step = if kind == 14 then BlockPut else from_15
    in let from_13 : Step = if kind == 13 then ReplyTake else from_14
    in let from_10 : Step = if nat_lt kind 13 then Period (1 + w % 64) else from_13
    in let from_9 : Step = if kind == 9 then TakeSaver else from_10
    in let from_8 : Step = if kind == 8 then TakeMidi else from_9
    in let from_5 : Step = if nat_lt kind 8 then TakeOsc else from_8
    in let from_4 : Step = if kind == 4 then PutMidi (midi_command w) else from_5
    in short_if (nat_lt kind 4) (PutOsc (osc_command w)) from_4 none
    (short_if (kind == 4) (PutMidi (midi_command w)) from_5 none
    (short_if (nat_lt kind 8) TakeOsc from_8 none
    (short_if (kind == 8) TakeMidi from_9 none
    (short_if (kind == 9) TakeSaver from_10 none
    (short_if (nat_lt kind 13) (Period (1 + w % 64)) from_13 few
    (short_if (kind == 13) ReplyTake from_14 none
    (short_if (kind == 14) BlockPut from_15 none
    (short_if (kind == 15) BlockTake from_16 none
    (short_if (kind == 16) ReplyPut PutSaver none none)))))))))

-- so the steps of a drill may all be done
pub drill_may : (number state steps : ℕ) (w : Lists) → Fits steps w →
    MayDoAll (steps_from state steps) number w
drill_may number state zero w fits = tt
drill_may number state (suc steps) w fits =
    let next = next_state state
    in let short = short_step (next / 2 ^ 33 % 18) (next / 2 ^ 33 / 18)
    in (
      may_fit (step_at next) w steps short fits,
      drill_may number next steps (did (step_at next) number w).lists
          (still_fits (step_at next) number w steps short fits),
    )

pub may_drill : (number count : ℕ) → count ≤ max_drill_steps →
    MayDoAll (steps_of number count) number (first_lists (first_engine drill_beginning))
may_drill number count few =
    drill_may number number count (first_lists (first_engine drill_beginning))
    (record { osc = omega arith; midi = omega arith; frames = omega arith })
