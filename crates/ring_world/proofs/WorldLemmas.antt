-- A world stays one.
use Rattle.std.proofs.Common.{◌≡◌, ℕ, ◌+◌, ◌≤◌, Bool, true, false, List, [], ◌++◌, length, refl, sym, ap, ◌∙◌, subst, arith}
use Rattle.std.specs.Bool.{⊤}
use Rattle.std.specs.Prelude.{Option, Some, None, Result, Ok, Err, OnOk, slice_get}
use Rattle.sl_base.specs.Limits.{max_session_frames, max_quota}
use Rattle.sl_base.specs.Sounds.{Sound}
use Rattle.sl_base.specs.declared.memory.Memory.{Memory}
use Rattle.sl_commands.specs.declared.Target.{Target}
use Rattle.sl_commands.specs.declared.Command.{Command}
use Rattle.sl_commands.specs.declared.Command.TheVariants.{Release}
use Rattle.sl_commands.specs.declared.Reply.{Reply}
use Rattle.sl_commands.specs.declared.Block.{Block}
use Rattle.sl_ports.specs.declared.keepers.Keeper.{Ghosts as Keeper}
use Rattle.looper_rules.specs.Entries.{reply}
use Rattle.looper_rules.specs.Reached.{IsBeginning}
use Rattle.looper_rules.specs.Run.{Ran}
use Rattle.run_laws.proofs.Answers.Runs.{length-run_output}
use Rattle.loop_saver.specs.Savers.{SaverOf}
use Rattle.engine_steps.specs.Engines.{EngineOf, Beginning, first_engine, first_looper, entry_of, next_block, took}
use Rattle.ring_world.specs.declared.lists.Lists.{Lists}
use Rattle.ring_world.specs.declared.step.Outcome.{Outcome}
use Rattle.ring_world.specs.declared.step.Step.{Step}
use Rattle.ring_world.specs.declared.step.Step.TheVariants.{PutOsc, PutMidi, TakeOsc, TakeMidi, TakeSaver, Period, ReplyTake, BlockPut, BlockTake, ReplyPut, PutSaver}
use Rattle.ring_world.specs.Rings.{RingOf, sent, has_room, next_of, passed_on}
use Rattle.ring_world.specs.Worlds.{first_lists}
use Rattle.ring_world.specs.Stepping.{put_osc_by, put_midi_by, given, take_by, oldest_target, released, take_outcome_by, put_held_by, take_reply_by, put_block_by, put_outcome_by, did, heard, Does, MayDo}
use Rattle.ring_world.specs.Standing.{IsInStep, IsWorld}
use Rattle.ring_world.specs.Saving.{KeepsSaves}
use Rattle.ring_world.proofs.KeepLemmas.{same_rest, begins_in_step, step_keeps}
use Rattle.ring_world.proofs.SaveLemmas.{kept_same}

-- it is one at first
pub first_is_world : (b : Beginning) (e : EngineOf) → e ≡ first_engine b →
    IsBeginning b.settings b.chunks b.initial → IsWorld (first_lists e)
first_is_world b e is begins =
    record {
      beginning = b;
      input = [];
      step = subst (λ x. IsInStep b [] (first_lists x)) (sym is) (begins_in_step b begins);
    }

pub first_kept : {P : Type 0} (k : Keeper P) (first now : P) (s : SaverOf) (w : Lists) →
    now ≡ first → w.blocks.taken ≡ [] → s.saving ≡ None → KeepsSaves k first now s w
first_kept k first now s w new none idle =
    subst (λ x. KeepsSaves k first x s w) (sym new)
    (subst (λ o. KeepsSaves k first first (record s { saving = o }) w) (sym idle)
    (kept_same k first first (record s { saving = None })
    (record w { blocks = record w.blocks { taken = [] } }) w none
    (record { keeps = (refl, refl, refl) })))

-- and behind each step
pub world_kept : (result : Result Outcome Memory) (step : Step) (number : ℕ) (old new : Lists) →
    MayDo step old → Does result old new (did step number old) → IsWorld old → IsWorld new
world_kept (Ok o) step number old new may does world =
    record {
      beginning = world.beginning;
      input = world.input ++ heard step number old;
      step = subst (IsInStep world.beginning (world.input ++ heard step number old)) (sym does.1)
          (step_keeps world.beginning world.input step number old may world.step);
    }
world_kept (Err e) step number old new may does world = subst IsWorld (sym does) world

pub in_step_on : (result : Result Outcome Memory) (step : Step) (number : ℕ) (old new : Lists) →
    MayDo step old → Does result old new (did step number old) →
    (b : Beginning) (input : List Sound) → IsInStep b input old →
    OnOk result (IsInStep b (input ++ heard step number old) new)
in_step_on (Ok o) step number old new may does b input h =
    subst (IsInStep b (input ++ heard step number old)) (sym does.1)
    (step_keeps b input step number old may h)
in_step_on (Err e) step number old new may does b input h = tt

-- every step but one leaves the blocks that were taken
abbrev pub LeavesTaken : Step → Type 0
LeavesTaken BlockTake = ⊥
LeavesTaken _ = ⊤

taken_given : (sender : ℕ) (c : Command) (w : Lists) →
    (given sender c w).blocks.taken ≡ w.blocks.taken
taken_given sender c w =
    let en = entry_of sender c w.engine
    in ap (λ (r : RingOf Block). r.taken)
    (same_rest (reply en w.engine.looper) (record w { engine = took en w.engine })).blocks

taken_osc : (room : Bool) (c : Command) (w : Lists) →
    (put_osc_by room c w).lists.blocks.taken ≡ w.blocks.taken
taken_osc true c w = refl
taken_osc false c w = refl

taken_midi : (room : Bool) (c : Command) (w : Lists) →
    (put_midi_by room c w).lists.blocks.taken ≡ w.blocks.taken
taken_midi true c w = refl
taken_midi false c w = refl

taken_take : (sender : ℕ) (held : Option Reply) (next : Option Command) (w moved : Lists) →
    moved.blocks ≡ w.blocks →
    (take_by sender held next w moved).lists.blocks.taken ≡ w.blocks.taken
taken_take sender (Some r) next w moved same = refl
taken_take sender None None w moved same = refl
taken_take sender None (Some c) w moved same =
    taken_given sender c moved ∙ ap (λ (r : RingOf Block). r.taken) same

taken_released : (target : Option Target) (o : ℕ) (w moved : Lists) → moved.blocks ≡ w.blocks →
    (released target o w moved).lists.blocks.taken ≡ w.blocks.taken
taken_released None o w moved same = refl
taken_released (Some target) o w moved same =
    taken_given 2 (Release target o) moved ∙ ap (λ (r : RingOf Block). r.taken) same

taken_outcome : (held : Option Reply) (next : Option ℕ) (w moved : Lists) →
    moved.blocks ≡ w.blocks →
    (take_outcome_by held next w moved).lists.blocks.taken ≡ w.blocks.taken
taken_outcome (Some r) next w moved same = refl
taken_outcome None None w moved same = refl
taken_outcome None (Some o) w moved same = taken_released (oldest_target w.engine) o w moved same

taken_held : (held : Option Reply) (room : Bool) (w : Lists) →
    (put_held_by held room w).lists.blocks.taken ≡ w.blocks.taken
taken_held None room w = refl
taken_held (Some r) false w = refl
taken_held (Some r) true w = refl

taken_reply : (next : Option Reply) (w : Lists) →
    (take_reply_by next w).lists.blocks.taken ≡ w.blocks.taken
taken_reply None w = refl
taken_reply (Some r) w = refl

taken_block : (next : Option Block) (room : Bool) (w : Lists) →
    (put_block_by next room w).lists.blocks.taken ≡ w.blocks.taken
taken_block None room w = refl
taken_block (Some b) false w = refl
taken_block (Some b) true w = refl

taken_put : (next : Option ℕ) (room : Bool) (w : Lists) →
    (put_outcome_by next room w).lists.blocks.taken ≡ w.blocks.taken
taken_put None room w = refl
taken_put (Some o) false w = refl
taken_put (Some o) true w = refl

taken_stays : (step : Step) (number : ℕ) (w : Lists) → LeavesTaken step →
    (did step number w).lists.blocks.taken ≡ w.blocks.taken
taken_stays (PutOsc c) number w leaves = taken_osc (has_room w.osc) c w
taken_stays (PutMidi c) number w leaves = taken_midi (has_room w.midi) c w
taken_stays TakeOsc number w leaves =
    taken_take 0 w.held (next_of w.osc) w (record w { osc = passed_on w.osc }) refl
taken_stays TakeMidi number w leaves =
    taken_take 1 w.held (next_of w.midi) w (record w { midi = passed_on w.midi }) refl
taken_stays TakeSaver number w leaves =
    taken_outcome w.held (next_of w.saver) w (record w { saver = passed_on w.saver }) refl
taken_stays (Period frames) number w leaves = refl
taken_stays ReplyTake number w leaves = taken_reply (next_of w.replies) w
taken_stays BlockPut number w leaves =
    taken_block (next_block w.engine) (has_room w.blocks) w
taken_stays BlockTake number w leaves = absurd leaves
taken_stays ReplyPut number w leaves = taken_held w.held (has_room w.replies) w
taken_stays PutSaver number w leaves =
    taken_put (slice_get w.remembered 0) (has_room w.saver) w

pub kept_other : {P : Type 0} (k : Keeper P) (keeper : P) (s : SaverOf)
    (result : Result Outcome Memory) (step : Step) (number : ℕ) (old new : Lists) →
    LeavesTaken step → Does result old new (did step number old) → (first : P) →
    KeepsSaves k first keeper s old → OnOk result (KeepsSaves k first keeper s new)
kept_other k keeper s (Ok o) step number old new leaves does first kept =
    kept_same k first keeper s old new
    (ap (λ (w : Lists). w.blocks.taken) does.1 ∙ taken_stays step number old leaves) kept
kept_other k keeper s (Err e) step number old new leaves does first kept = tt

-- the output is as long as what was played, and a sender's commands are within the greatest quota
pub output_is_short : (w : Lists) → IsWorld w → w.engine.frames ≤ max_session_frames →
    length w.output ≤ max_session_frames
output_is_short w world within =
    let h = world.step.step.engine
    in let long : length w.output ≡ length world.input =
    sym (ap (λ (r : Ran). length r.output) h.ran)
    ∙ length-run_output w.engine.journal.entries world.input (first_looper world.beginning)
    in let same = h.frames
    in omega arith

pub puts_are_few : (w : Lists) → IsWorld w → w.engine.journal.quota ≤ max_quota →
    length (sent w.osc) + length (sent w.midi) ≤ 2097152
puts_are_few w world within =
    let osc = world.step.osc in let midi = world.step.midi in omega arith
