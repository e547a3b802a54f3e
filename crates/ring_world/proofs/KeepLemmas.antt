-- Each step keeps a world in step.
use Rattle.std.proofs.Common.{◌≡◌, ℕ, ◌+◌, ◌≤◌, ◌<◌, Bool, true, false, List, [], ◌∷◌, ◌++◌, length, drop, refl, sym, ap, ap₂, ◌∙◌, subst, arith, append_assoc, append-nil, length-append}
use Rattle.std.specs.List.{AllByRecursion}
use Rattle.std.specs.Prelude.{Option, Some, None, slice_get, option_map, option_to_list}
use Rattle.sl_base.specs.Sounds.{Sound}
use Rattle.sl_commands.specs.declared.Target.{Target}
use Rattle.sl_commands.specs.declared.Command.{Command}
use Rattle.sl_commands.specs.declared.Command.TheVariants.{Release}
use Rattle.sl_commands.specs.declared.Reply.{Reply}
use Rattle.sl_commands.specs.declared.Block.{Block}
use Rattle.sl_commands.specs.declared.Block.TheVariants.{Head, Part, End}
use Rattle.sl_commands.specs.Commands.{is_release_target, is_outcome}
use Rattle.looper_rules.specs.Saves.{Save}
use Rattle.looper_rules.specs.SaveBlocks.{ends_in}
use Rattle.looper_rules.specs.Entries.{reply}
use Rattle.looper_rules.specs.Reached.{IsBeginning}
use Rattle.looper_rules.specs.Unanswered.{holds_of, HoldPins, IsHeld}
use Rattle.frame_stamp.specs.Journals.{JournalOf, HasRoom}
use Rattle.engine_steps.specs.Engines.{EngineOf, Beginning, ClearsSent, first_engine, first_of, target_of, entry_of, waiting, next_block, due_target, took, block_sent}
use Rattle.engine_steps.proofs.SentLemmas.{only_sends}
use Rattle.engine_steps.proofs.ReachedLemmas.{lists_held}
use Rattle.looper_engine.proofs.HoldingLemmas.{all_left, held_target}
use Rattle.live_steps.specs.Passed.{Passed, with_command, with_outcome, with_block, PutsHeld}
use Rattle.live_steps.specs.InStep.{AreInStep, so_far}
use Rattle.live_steps.proofs.StepLemmas.{command_step, outcome_step, release_clears, held_step, block_step, frames_step, new_in_step}
use Rattle.live_steps.proofs.RoomLemmas.{outcome_room, none_owed}
use Rattle.ring_world.specs.declared.lists.Lists.{Lists}
use Rattle.ring_world.specs.declared.step.Step.{Step}
use Rattle.ring_world.specs.declared.step.Step.TheVariants.{PutOsc, PutMidi, TakeOsc, TakeMidi, TakeSaver, Period, ReplyTake, BlockPut, BlockTake, ReplyPut, PutSaver}
use Rattle.ring_world.specs.Rings.{RingOf, sent, has_room, put_on, next_of, passed_on}
use Rattle.ring_world.specs.Inputs.{input_from}
use Rattle.ring_world.specs.Worlds.{first_lists, passed}
use Rattle.ring_world.specs.Stepping.{done, put_osc_by, put_midi_by, replied_by, replied, given, take_by, oldest_target, released, take_outcome_by, put_held_by, take_reply_by, put_block_by, outcome_of, take_block_by, put_outcome_by, played, heard, did, MayDo}
use Rattle.ring_world.specs.Standing.{outcomes_in, IsInStep, IsWorld}
use Rattle.ring_world.proofs.RingLemmas.{first_split, sent-passed_on, taken-passed_on, sent-put_on, some_waits}

-- it begins in step
pub begins_in_step : (b : Beginning) → IsBeginning b.settings b.chunks b.initial →
    IsInStep b [] (first_lists (first_engine b))
begins_in_step b begins =
    record { step = new_in_step b begins; outcomes = refl; osc = omega arith; midi = omega arith }

-- a reply that joins the others changes nothing else
pub record SameRest (w next : Lists) : Type 0 where
  pub engine : next.engine ≡ w.engine
  pub osc : next.osc ≡ w.osc
  pub midi : next.midi ≡ w.midi
  pub saver : next.saver ≡ w.saver
  pub blocks : next.blocks ≡ w.blocks
  pub remembered : next.remembered ≡ w.remembered
  pub output : next.output ≡ w.output

rest_by : (room : Bool) (r : Reply) (w : Lists) → SameRest w (replied_by room r w)
rest_by true r w =
    record {
      engine = refl;
      osc = refl;
      midi = refl;
      saver = refl;
      blocks = refl;
      remembered = refl;
      output = refl;
    }
rest_by false r w =
    record {
      engine = refl;
      osc = refl;
      midi = refl;
      saver = refl;
      blocks = refl;
      remembered = refl;
      output = refl;
    }

pub same_rest : (answer : Option Reply) (w : Lists) → SameRest w (replied answer w)
same_rest None w =
    record {
      engine = refl;
      osc = refl;
      midi = refl;
      saver = refl;
      blocks = refl;
      remembered = refl;
      output = refl;
    }
same_rest (Some r) w = rest_by (has_room w.replies) r w

-- and comes behind those that were put
joined_by : (room : Bool) (r : Reply) (w : Lists) → w.held ≡ None →
    let next = replied_by room r w in
    sent next.replies ++ option_to_list next.held ≡ sent w.replies ++ r ∷ []
joined_by true r w free =
    ap (λ o. sent (put_on r w.replies) ++ option_to_list o) free
    ∙ append-nil (sent (put_on r w.replies)) ∙ sent-put_on r w.replies
joined_by false r w free = refl

joined : (answer : Option Reply) (w : Lists) → w.held ≡ None →
    let next = replied answer w in
    sent next.replies ++ option_to_list next.held ≡ sent w.replies ++ option_to_list answer
joined None w free = ap (λ o. sent w.replies ++ option_to_list o) free
joined (Some r) w free = joined_by (has_room w.replies) r w free

-- what is in step with a reply held is so where it is put or held
joins : (b : Beginning) (input : List Sound) (w next : Lists) (p : Passed) →
    SameRest w next → AreInStep b input w.output w.engine p →
    PutsHeld p (passed next) →
    sent w.saver ++ w.remembered ≡ outcomes_in w.blocks.taken →
    length (sent w.osc) ≤ w.engine.journal.quota → length (sent w.midi) ≤ w.engine.journal.quota →
    IsInStep b input next
joins b input w next p add step puts outcomes osc midi =
    let now : AreInStep b input w.output w.engine (passed next) =
    held_step w.engine p (passed next) puts b input w.output step
    in let quota = ap (λ (e : EngineOf). e.journal.quota) add.engine
    in let few = ap (λ (r : RingOf Command). length (sent r)) add.osc
    in let more = ap (λ (r : RingOf Command). length (sent r)) add.midi
    in record {
      step = subst (λ e. AreInStep b input next.output e (passed next)) (sym add.engine)
          (subst (λ out. AreInStep b input out w.engine (passed next)) (sym add.output) now);
      outcomes = ap₂ (λ (r : RingOf ℕ) rs. sent r ++ rs) add.saver add.remembered ∙ outcomes
          ∙ ap (λ (r : RingOf Block). outcomes_in r.taken) (sym add.blocks);
      osc = omega arith;
      midi = omega arith;
    }

-- a command of sender 0
osc_given : (b : Beginning) (input : List Sound) (c : Command) (w : Lists) → w.held ≡ None →
    next_of w.osc ≡ Some c → IsInStep b input w →
    IsInStep b input (given 0 c (record w { osc = passed_on w.osc }))
osc_given b input c w free is h =
    let en = entry_of 0 c w.engine
    in let answer = reply en w.engine.looper
    in let moved : Lists = record w { osc = passed_on w.osc; engine = took en w.engine }
    in let add = same_rest answer moved
    in let few = ap length (sent-passed_on w.osc)
    in let osc = h.osc
    in joins b input moved (replied answer moved) (with_command 0 c answer (passed w)) add
    (command_step 0 c w.engine (passed w) (omega arith) free b input w.output h.step)
    (record {
      osc = ap (λ (r : RingOf Command). r.taken) add.osc ∙ taken-passed_on w.osc c is;
      midi = ap (λ (r : RingOf Command). r.taken) add.midi;
      saver = ap (λ (r : RingOf ℕ). r.taken) add.saver;
      blocks = ap (λ (r : RingOf Block). sent r) add.blocks;
      replies = joined answer moved free;
    })
    h.outcomes (omega arith) h.midi

-- a command of sender 1
midi_given : (b : Beginning) (input : List Sound) (c : Command) (w : Lists) → w.held ≡ None →
    next_of w.midi ≡ Some c → IsInStep b input w →
    IsInStep b input (given 1 c (record w { midi = passed_on w.midi }))
midi_given b input c w free is h =
    let en = entry_of 1 c w.engine
    in let answer = reply en w.engine.looper
    in let moved : Lists = record w { midi = passed_on w.midi; engine = took en w.engine }
    in let add = same_rest answer moved
    in let few = ap length (sent-passed_on w.midi)
    in let midi = h.midi
    in joins b input moved (replied answer moved) (with_command 1 c answer (passed w)) add
    (command_step 1 c w.engine (passed w) (omega arith) free b input w.output h.step)
    (record {
      osc = ap (λ (r : RingOf Command). r.taken) add.osc;
      midi = ap (λ (r : RingOf Command). r.taken) add.midi ∙ taken-passed_on w.midi c is;
      saver = ap (λ (r : RingOf ℕ). r.taken) add.saver;
      blocks = ap (λ (r : RingOf Block). sent r) add.blocks;
      replies = joined answer moved free;
    })
    h.outcomes h.osc (omega arith)

-- an outcome that waits is 0
outcome_number : (b : Block) (o : ℕ) (rest : List ℕ) → outcome_of b ≡ o ∷ rest → o ≡ 0
outcome_number (Head save name target settings) o rest is = absurd (cc)
outcome_number (Part save index frames) o rest is = absurd (cc)
outcome_number (End save) o rest is = cc

outcomes_are : (bs : List Block) (before : List ℕ) (o : ℕ) (rest : List ℕ) →
    outcomes_in bs ≡ before ++ o ∷ rest → o ≡ 0
outcomes_are [] before o rest is = absurd (none before is)
  where
    none : (before : List ℕ) → [] ≡ before ++ o ∷ rest → ⊥
    none [] is = cc
    none (x ∷ before) is = cc
outcomes_are (Head save name target settings ∷ bs) before o rest is =
    outcomes_are bs before o rest is
outcomes_are (Part save index frames ∷ bs) before o rest is = outcomes_are bs before o rest is
outcomes_are (End save ∷ bs) [] o rest is =
    let same : 0 ∷ outcomes_in bs ≡ o ∷ rest = is in cc
outcomes_are (End save ∷ bs) (x ∷ before) o rest is =
    outcomes_are bs before o rest
    (let same : 0 ∷ outcomes_in bs ≡ x ∷ (before ++ o ∷ rest) = is in cc)

-- as many outcomes as ends
outcome_count : (bs : List Block) → length (outcomes_in bs) ≡ ends_in bs
outcome_count [] = refl
outcome_count (Head save name target settings ∷ bs) = let more = outcome_count bs in omega arith
outcome_count (Part save index frames ∷ bs) = let more = outcome_count bs in omega arith
outcome_count (End save ∷ bs) = let more = outcome_count bs in omega arith

ends-append : (xs ys : List Block) → ends_in (xs ++ ys) ≡ ends_in xs + ends_in ys
ends-append [] ys = omega arith
ends-append (x ∷ xs) ys = let more = ends-append xs ys in omega arith

-- where an outcome waits, a save is due
pub owed : (b : Beginning) (input : List Sound) (o : ℕ) (w : Lists) → next_of w.saver ≡ Some o →
    IsInStep b input w → length w.saver.taken < ends_in (sent w.blocks)
owed b input o w is h =
    let waits = some_waits w.saver o is
    in let all = ap length h.outcomes
    in let both = length-append (sent w.saver) w.remembered
    in let count = outcome_count w.blocks.taken
    in let ends = ends-append w.blocks.taken w.blocks.waiting
    in omega arith

-- the save that is due is the oldest that no release has answered
pub oldest_is_due : (e : EngineOf) (target : Target) → due_target e ≡ Some target →
    oldest_target e ≡ Some target
oldest_is_due e target is = by e.due is
  where
    by : (due : List Save) → option_map target_of (first_of due) ≡ Some target →
        option_map target_of (first_of (due ++ e.sending)) ≡ Some target
    by [] none = absurd (cc)
    by (s ∷ due) some = some

-- and where one is due, the oldest is
oldest_due : (e : EngineOf) (target : Target) → (due_target e ≡ None → ⊥) →
    oldest_target e ≡ Some target → due_target e ≡ Some target
oldest_due e target some is = by e.due some is
  where
    by : (due : List Save) → (option_map target_of (first_of due) ≡ None → ⊥) →
        option_map target_of (first_of (due ++ e.sending)) ≡ Some target →
        option_map target_of (first_of due) ≡ Some target
    by [] some is = absurd (some refl)
    by (s ∷ due) some is = is

-- its target is one of a release
due_in_range : (e : EngineOf) (target : Target) → HoldPins (waiting e) (holds_of e.looper) →
    due_target e ≡ Some target → is_release_target (length e.looper.tracks) target ≡ true
due_in_range e target held is =
    by e.due (all_left (λ (s : Save). IsHeld s.target s.lists (holds_of e.looper)) e.due e.sending
    held.held) is
  where
    by : (due : List Save) →
        AllByRecursion (λ (s : Save). IsHeld s.target s.lists (holds_of e.looper)) due →
        option_map target_of (first_of due) ≡ Some target →
        is_release_target (length e.looper.tracks) target ≡ true
    by [] all none = absurd (cc)
    by (s ∷ due) all some =
        let same : Some s.target ≡ Some target = some
        in let is_target : s.target ≡ target = cc
        in subst (λ t. is_release_target (length e.looper.tracks) t ≡ true) is_target
        (held_target s.target s.lists e.looper all.0)

pub due_of_world : (b : Beginning) (input : List Sound) (w : Lists) → IsInStep b input w →
    (o : ℕ) → next_of w.saver ≡ Some o → due_target w.engine ≡ None → ⊥
due_of_world b input w h o is none =
    none_owed b input w.output w.engine (passed w) h.step (owed b input o w is h) none

-- the outcome of the save that is due
zero_waits : (b : Beginning) (input : List Sound) (o : ℕ) (w : Lists) → IsInStep b input w →
    next_of w.saver ≡ Some o → o ≡ 0
zero_waits b input o w h is =
    let rest = drop 1 w.saver.waiting
    in let here : sent w.saver ++ w.remembered
    ≡ w.saver.taken ++ (o ∷ (rest ++ w.remembered)) =
    append_assoc w.saver.taken w.saver.waiting w.remembered
    ∙ ap (λ os. w.saver.taken ++ (os ++ w.remembered)) (first_split w.saver.waiting o is)
    in outcomes_are w.blocks.taken w.saver.taken o (rest ++ w.remembered) (sym h.outcomes ∙ here)

outcome_given : (b : Beginning) (input : List Sound) (target : Target) (o : ℕ) (w : Lists) →
    w.held ≡ None → next_of w.saver ≡ Some o → due_target w.engine ≡ Some target →
    IsInStep b input w →
    IsInStep b input (given 2 (Release target o) (record w { saver = passed_on w.saver }))
outcome_given b input target o w free is due h =
    let en = entry_of 2 (Release target o) w.engine
    in let answer = reply en w.engine.looper
    in let moved : Lists = record w { saver = passed_on w.saver; engine = took en w.engine }
    in let add = same_rest answer moved
    in let held = lists_held b (so_far input w.output h.step.answered w.engine (passed w)) w.engine
    h.step.begins h.step.engine
    in let there = due_in_range w.engine target held due
    in let ends : is_outcome o ≡ true = ap is_outcome (zero_waits b input o w h is)
    in joins b input moved (replied answer moved) (with_outcome o answer (passed w)) add
    (outcome_step target o w.engine (passed w) due there ends free b input w.output h.step)
    (record {
      osc = ap (λ (r : RingOf Command). r.taken) add.osc;
      midi = ap (λ (r : RingOf Command). r.taken) add.midi;
      saver = ap (λ (r : RingOf ℕ). r.taken) add.saver ∙ taken-passed_on w.saver o is;
      blocks = ap (λ (r : RingOf Block). sent r) add.blocks;
      replies = joined answer moved free;
    })
    (ap (λ os. os ++ w.remembered) (sent-passed_on w.saver) ∙ h.outcomes) h.osc h.midi

-- each step but a period
put_osc_keeps : (b : Beginning) (input : List Sound) (room : Bool) (c : Command) (w : Lists) →
    length (sent w.osc) < w.engine.journal.quota → IsInStep b input w →
    IsInStep b input (put_osc_by room c w).lists
put_osc_keeps b input true c w few h =
    let more = ap length (sent-put_on c w.osc)
    in let one = length-append (sent w.osc) (c ∷ [])
    in record { step = h.step; outcomes = h.outcomes; osc = omega arith; midi = h.midi }
put_osc_keeps b input false c w few h =
    record { step = h.step; outcomes = h.outcomes; osc = h.osc; midi = h.midi }

put_midi_keeps : (b : Beginning) (input : List Sound) (room : Bool) (c : Command) (w : Lists) →
    length (sent w.midi) < w.engine.journal.quota → IsInStep b input w →
    IsInStep b input (put_midi_by room c w).lists
put_midi_keeps b input true c w few h =
    let more = ap length (sent-put_on c w.midi)
    in let one = length-append (sent w.midi) (c ∷ [])
    in record { step = h.step; outcomes = h.outcomes; osc = h.osc; midi = omega arith }
put_midi_keeps b input false c w few h =
    record { step = h.step; outcomes = h.outcomes; osc = h.osc; midi = h.midi }

take_osc_keeps : (b : Beginning) (input : List Sound) (held : Option Reply) (next : Option Command)
    (w : Lists) → w.held ≡ held → next_of w.osc ≡ next → IsInStep b input w →
    IsInStep b input (take_by 0 held next w (record w { osc = passed_on w.osc })).lists
take_osc_keeps b input (Some r) next w held is h = h
take_osc_keeps b input None None w held is h = h
take_osc_keeps b input None (Some c) w held is h = osc_given b input c w held is h

take_midi_keeps : (b : Beginning) (input : List Sound) (held : Option Reply)
    (next : Option Command) (w : Lists) → w.held ≡ held → next_of w.midi ≡ next →
    IsInStep b input w →
    IsInStep b input (take_by 1 held next w (record w { midi = passed_on w.midi })).lists
take_midi_keeps b input (Some r) next w held is h = h
take_midi_keeps b input None None w held is h = h
take_midi_keeps b input None (Some c) w held is h = midi_given b input c w held is h

released_keeps : (b : Beginning) (input : List Sound) (target : Option Target) (o : ℕ) (w : Lists) →
    w.held ≡ None → next_of w.saver ≡ Some o → oldest_target w.engine ≡ target →
    IsInStep b input w →
    IsInStep b input (released target o w (record w { saver = passed_on w.saver })).lists
released_keeps b input None o w free is oldest h = h
released_keeps b input (Some target) o w free is oldest h =
    outcome_given b input target o w free is
    (oldest_due w.engine target (due_of_world b input w h o is) oldest) h

take_saver_keeps : (b : Beginning) (input : List Sound) (held : Option Reply) (next : Option ℕ)
    (w : Lists) → w.held ≡ held → next_of w.saver ≡ next → IsInStep b input w →
    IsInStep b input (take_outcome_by held next w (record w { saver = passed_on w.saver })).lists
take_saver_keeps b input (Some r) next w held is h = h
take_saver_keeps b input None None w held is h = h
take_saver_keeps b input None (Some o) w held is h =
    released_keeps b input (oldest_target w.engine) o w held is refl h

put_held_keeps : (b : Beginning) (input : List Sound) (held : Option Reply) (room : Bool)
    (w : Lists) → w.held ≡ held → IsInStep b input w →
    IsInStep b input (put_held_by held room w).lists
put_held_keeps b input None room w is h = h
put_held_keeps b input (Some r) false w is h = h
put_held_keeps b input (Some r) true w is h =
    let next : Lists = record w { replies = put_on r w.replies; held = None }
    in record {
      step = held_step w.engine (passed w) (passed next)
          (record {
            osc = refl;
            midi = refl;
            saver = refl;
            blocks = refl;
            replies = append-nil (sent (put_on r w.replies)) ∙ sent-put_on r w.replies
                ∙ ap (λ o. sent w.replies ++ option_to_list o) (sym is);
          })
          b input w.output h.step;
      outcomes = h.outcomes;
      osc = h.osc;
      midi = h.midi;
    }

take_reply_keeps : (b : Beginning) (input : List Sound) (next : Option Reply) (w : Lists) →
    IsInStep b input w → IsInStep b input (take_reply_by next w).lists
take_reply_keeps b input None w h = h
take_reply_keeps b input (Some r) w h =
    let next : Lists = record w { replies = passed_on w.replies }
    in record {
      step = held_step w.engine (passed w) (passed next)
          (record {
            osc = refl;
            midi = refl;
            saver = refl;
            blocks = refl;
            replies = ap (λ rs. rs ++ option_to_list w.held) (sent-passed_on w.replies);
          })
          b input w.output h.step;
      outcomes = h.outcomes;
      osc = h.osc;
      midi = h.midi;
    }

put_block_keeps : (b : Beginning) (input : List Sound) (next : Option Block) (room : Bool)
    (w : Lists) → next_block w.engine ≡ next → IsInStep b input w →
    IsInStep b input (put_block_by next room w).lists
put_block_keeps b input None room w is h = h
put_block_keeps b input (Some x) false w is h = h
put_block_keeps b input (Some x) true w is h =
    let next : Lists = record w { blocks = put_on x w.blocks; engine = block_sent w.engine }
    in let quota = ap (λ (j : JournalOf). j.quota) (only_sends w.engine).journal
    in let osc = h.osc
    in let midi = h.midi
    in record {
      step = held_step (block_sent w.engine) (with_block x (passed w)) (passed next)
          (record {
            osc = refl;
            midi = refl;
            saver = refl;
            blocks = sent-put_on x w.blocks;
            replies = refl;
          })
          b input w.output (block_step x w.engine (passed w) is b input w.output h.step);
      outcomes = h.outcomes;
      osc = omega arith;
      midi = omega arith;
    }

pub outcomes-append : (xs ys : List Block) →
    outcomes_in (xs ++ ys) ≡ outcomes_in xs ++ outcomes_in ys
outcomes-append [] ys = refl
outcomes-append (x ∷ xs) ys =
    ap (λ os. outcome_of x ++ os) (outcomes-append xs ys)
    ∙ sym (append_assoc (outcome_of x) (outcomes_in xs) (outcomes_in ys))

take_block_keeps : (b : Beginning) (input : List Sound) (next : Option Block) (w : Lists) →
    next_of w.blocks ≡ next → IsInStep b input w →
    IsInStep b input (take_block_by next w).lists
take_block_keeps b input None w is h = h
take_block_keeps b input (Some x) w is h =
    let next : Lists = record w {
      blocks = passed_on w.blocks;
      remembered = w.remembered ++ outcome_of x;
    }
    in record {
      step = held_step w.engine (passed w) (passed next)
          (record {
            osc = refl;
            midi = refl;
            saver = refl;
            blocks = sent-passed_on w.blocks;
            replies = refl;
          })
          b input w.output h.step;
      outcomes = sym (append_assoc (sent w.saver) w.remembered (outcome_of x))
          ∙ ap₂ (λ os more. os ++ more) h.outcomes (sym (append-nil (outcome_of x)))
          ∙ sym (outcomes-append w.blocks.taken (x ∷ []))
          ∙ ap outcomes_in (sym (taken-passed_on w.blocks x is));
      osc = h.osc;
      midi = h.midi;
    }

put_outcome_keeps : (b : Beginning) (input : List Sound) (next : Option ℕ) (room : Bool)
    (w : Lists) → slice_get w.remembered 0 ≡ next → IsInStep b input w →
    IsInStep b input (put_outcome_by next room w).lists
put_outcome_keeps b input None room w is h = h
put_outcome_keeps b input (Some o) false w is h = h
put_outcome_keeps b input (Some o) true w is h =
    record {
      step = h.step;
      outcomes = ap (λ os. os ++ drop 1 w.remembered) (sent-put_on o w.saver)
          ∙ append_assoc (sent w.saver) (o ∷ []) (drop 1 w.remembered)
          ∙ ap (λ os. sent w.saver ++ os) (sym (first_split w.remembered o is)) ∙ h.outcomes;
      osc = h.osc;
      midi = h.midi;
    }

played_keeps : (b : Beginning) (input xs : List Sound) (w : Lists) → IsInStep b input w →
    IsInStep b (input ++ xs) (played xs w).lists
played_keeps b input xs w h =
    record {
      step = frames_step xs w.engine (passed w) b input w.output h.step;
      outcomes = h.outcomes;
      osc = h.osc;
      midi = h.midi;
    }

-- with nothing played
nothing_more : (b : Beginning) (input : List Sound) (w : Lists) → IsInStep b input w →
    IsInStep b (input ++ []) w
nothing_more b input w h = subst (λ xs. IsInStep b xs w) (sym (append-nil input)) h

-- every step
pub step_keeps : (b : Beginning) (input : List Sound) (step : Step) (number : ℕ) (w : Lists) →
    MayDo step w → IsInStep b input w →
    IsInStep b (input ++ heard step number w) (did step number w).lists
step_keeps b input (PutOsc c) number w may h =
    nothing_more b input _ (put_osc_keeps b input (has_room w.osc) c w may h)
step_keeps b input (PutMidi c) number w may h =
    nothing_more b input _ (put_midi_keeps b input (has_room w.midi) c w may h)
step_keeps b input TakeOsc number w may h =
    nothing_more b input _ (take_osc_keeps b input w.held (next_of w.osc) w refl refl h)
step_keeps b input TakeMidi number w may h =
    nothing_more b input _ (take_midi_keeps b input w.held (next_of w.midi) w refl refl h)
step_keeps b input TakeSaver number w may h =
    nothing_more b input _ (take_saver_keeps b input w.held (next_of w.saver) w refl refl h)
step_keeps b input (Period frames) number w may h =
    played_keeps b input (input_from number w.engine.frames frames) w h
step_keeps b input ReplyTake number w may h =
    nothing_more b input _ (take_reply_keeps b input (next_of w.replies) w h)
step_keeps b input BlockPut number w may h =
    nothing_more b input _
    (put_block_keeps b input (next_block w.engine) (has_room w.blocks) w refl h)
step_keeps b input BlockTake number w may h =
    nothing_more b input _ (take_block_keeps b input (next_of w.blocks) w refl h)
step_keeps b input ReplyPut number w may h =
    nothing_more b input _ (put_held_keeps b input w.held (has_room w.replies) w refl h)
step_keeps b input PutSaver number w may h =
    nothing_more b input _
    (put_outcome_keeps b input (slice_get w.remembered 0) (has_room w.saver) w refl h)

-- so the release of the save that is due has room, and clears what was sent
pub due_of_any : (w : Lists) (o : ℕ) → IsWorld w → next_of w.saver ≡ Some o →
    due_target w.engine ≡ None → ⊥
due_of_any w o world is none = due_of_world world.beginning world.input w world.step o is none

pub release_room : (w : Lists) (target : Target) → IsWorld w → due_target w.engine ≡ Some target →
    HasRoom 2 w.engine.journal
release_room w target world is =
    let h = world.step
    in let osc = length-append w.osc.taken w.osc.waiting
    in let midi = length-append w.midi.taken w.midi.waiting
    in let few = h.osc
    in let few_midi = h.midi
    in outcome_room world.beginning world.input w.output w.engine (passed w) target h.step
    (omega arith) (omega arith) is

pub release_of_due_clears : (w : Lists) (target : Target) (o : ℕ) → IsWorld w →
    due_target w.engine ≡ Some target →
    ClearsSent (entry_of 2 (Release target o) w.engine) w.engine
release_of_due_clears w target o world is =
    release_clears world.beginning world.input w.output target o w.engine (passed w)
    world.step.step is

pub outcome_taken : (w moved : Lists) (target : Target) (o : ℕ) → w.held ≡ None →
    next_of w.saver ≡ Some o → due_target w.engine ≡ Some target →
    take_outcome_by w.held (next_of w.saver) w moved ≡ done (given 2 (Release target o) moved)
outcome_taken w moved target o free is due =
    ap₂ (λ h n. take_outcome_by h n w moved) free is
    ∙ ap (λ t. released t o w moved) (oldest_is_due w.engine target due)
