-- Each step of a live looper keeps engine and rings in step.
use Rattle.std.proofs.Common.{◌≡◌, ◌≢◌, ℕ, zero, suc, ◌+◌, ◌≤◌, ◌<◌, Bool, true, false, List, [], ◌∷◌, ◌++◌, length, take, Option, Some, None, refl, sym, ap, ap₂, ◌∙◌, subst, arith, append_assoc, append-nil, length-append, take_all}
use Rattle.std.specs.Prelude.{option_to_list, IsTrue, ◌==◌}
use Rattle.std.proofs.lemmas.List.Elements.{All-nil}
use Rattle.sl_base.specs.Sounds.{Sound}
use Rattle.sl_commands.specs.declared.Target.{Target}
use Rattle.sl_commands.specs.declared.Command.{Command}
use Rattle.sl_commands.specs.declared.Command.TheVariants.{Release}
use Rattle.sl_commands.specs.declared.Entry.{Entry}
use Rattle.sl_commands.specs.declared.Reply.{Reply}
use Rattle.sl_commands.specs.declared.Block.{Block}
use Rattle.sl_commands.specs.Entries.{entries_of, commands_of}
use Rattle.sl_commands.proofs.EntriesLemmas.{commands_of-own, commands_of-other, length-commands_of}
use Rattle.sl_commands.specs.Commands.{is_release_target, is_outcome}
use Rattle.looper_rules.specs.Looper.{Looper}
use Rattle.looper_rules.specs.Saves.{Save}
use Rattle.looper_rules.specs.Entries.{reply, save}
use Rattle.looper_rules.specs.Run.{Ran, run}
use Rattle.looper_rules.specs.Reached.{IsBeginning}
use Rattle.looper_rules.specs.SaveBlocks.{blocks_of_save}
use Rattle.run_laws.specs.Places.{run_before}
use Rattle.run_laws.specs.Apart.{AreAllApart}
use Rattle.frame_stamp.specs.Journals.{JournalOf, next_seq}
use Rattle.engine_steps.specs.Engines.{EngineOf, Beginning, first_looper, first_engine, entry_of, waiting, next_block, due_target, ClearsSent, took, went_on, put_out, sent_of, sent_from, block_sent}
use Rattle.engine_steps.specs.InStep.{SoFar, IsInStep, nothing, with_taken, with_frames}
use Rattle.engine_steps.proofs.StepLemmas.{took_in_step, went_on_in_step, block_sent_in_step}
use Rattle.engine_steps.proofs.ClearLemmas.{commands_clear_nothing, due_clears}
use Rattle.engine_steps.proofs.ReachedLemmas.{waiting_apart}
use Rattle.engine_steps.proofs.DueLemmas.{waiting-command, IsOldest, oldest_is, waiting-release, release-saves}
use Rattle.engine_steps.proofs.SentLemmas.{only_sends}
use Rattle.live_steps.specs.Passed.{Passed, none_passed, all_replies, releases_of, with_command, with_outcome, with_block, PutsHeld}
use Rattle.live_steps.specs.InStep.{so_far, AreBehindTheirSaves, AreInStep, StayInStep, GoOnInStep}
use Rattle.live_steps.proofs.JournalLemmas.{releases-more, releases-count, behind-more, behind-frames}

same_lists : (s : SoFar) (a b : List Sound) (c : List Reply) (d : List Save) (f : List Block) →
    a ≡ s.input → b ≡ s.output → c ≡ s.replies → d ≡ s.saves → f ≡ s.sent →
    record { input = a; output = b; replies = c; saves = d; sent = f } ≡ s
same_lists s a b c d f p q r t u =
    λ i. record { input = p i; output = q i; replies = r i; saves = t i; sent = u i }

-- a reply behind those that were put, where none was held
reply_behind : (replies : List Reply) (held answer : Option Reply) → held ≡ None →
    (replies ++ option_to_list held) ++ option_to_list answer ≡ replies ++ option_to_list answer
reply_behind replies held answer free =
    ap (λ rs. rs ++ option_to_list answer)
    (ap (λ o. replies ++ option_to_list o) free ∙ append-nil replies)

-- what both senders' commands leave
taken : (en : Entry) (b : Beginning) (input output : List Sound) (answered more : List Save)
    (e : EngineOf) (p next : Passed) →
    en.frame ≡ e.frames → en.seq ≡ next_seq en.sender e.journal.entries → ClearsSent en e →
    all_replies p ++ option_to_list (reply en e.looper) ≡ all_replies next →
    (answered ++ waiting e) ++ option_to_list (save en e.looper) ≡ more ++ waiting (took en e) →
    p.blocks ≡ next.blocks →
    IsInStep b (so_far input output answered e p) e →
    IsInStep b (so_far input output more (took en e) next) (took en e)
taken en b input output answered more e p next now number clears replies saves blocks h =
    subst (λ s. IsInStep b s (took en e))
    (same_lists (so_far input output more (took en e) next) _ _ _ _ _ refl refl
    replies saves blocks)
    (took_in_step b (so_far input output answered e p) en e now number clears h)

command_taken : (sender : ℕ) (c : Command) (e : EngineOf) (p next : Passed)
    (b : Beginning) (input output : List Sound) → sender < 2 → p.held ≡ None →
    let en = entry_of sender c e in
    (h : AreInStep b input output e p) →
    p.replies ++ option_to_list (reply en e.looper) ≡ all_replies next → p.blocks ≡ next.blocks →
    IsInStep b (so_far input output h.answered (took en e) next) (took en e)
command_taken sender c e p next b input output two free h replies blocks =
    let en = entry_of sender c e
    in let made = option_to_list (save en e.looper)
    in taken en b input output h.answered h.answered e p next refl refl
    (commands_clear_nothing en e two)
    (reply_behind p.replies p.held (reply en e.looper) free ∙ replies)
    (append_assoc h.answered (waiting e) made
    ∙ ap (λ ss. h.answered ++ ss) (sym (waiting-command en e two))) blocks h.engine

-- a command of OSC, and one of MIDI
osc_step : (c : Command) (e : EngineOf) (p : Passed) → p.held ≡ None →
    let en = entry_of 0 c e in
    StayInStep e p (took en e) (with_command 0 c (reply en e.looper) p)
osc_step c e p free = λ b input output h.
    let en = entry_of 0 c e
    in let es = e.journal.entries
    in let next = with_command 0 c (reply en e.looper) p
    in record {
      begins = h.begins;
      answered = h.answered;
      engine = command_taken 0 c e p next b input output (omega arith) free h refl refl;
      osc = commands_of-own 0 es en refl ∙ ap (λ cs. cs ++ c ∷ []) h.osc;
      midi = commands_of-other 1 es en (omega arith) ∙ h.midi;
      saver = commands_of-other 2 es en (omega arith) ∙ h.saver;
      each = h.each;
      behind = behind-more (first_looper b) input es en h.behind (λ is. absurd (omega arith));
      senders = (let a = length-append es (en ∷ []) in let d = length-append p.osc (c ∷ []) in
          let f = h.senders in omega arith);
    }

midi_step : (c : Command) (e : EngineOf) (p : Passed) → p.held ≡ None →
    let en = entry_of 1 c e in
    StayInStep e p (took en e) (with_command 1 c (reply en e.looper) p)
midi_step c e p free = λ b input output h.
    let en = entry_of 1 c e
    in let es = e.journal.entries
    in let next = with_command 1 c (reply en e.looper) p
    in record {
      begins = h.begins;
      answered = h.answered;
      engine = command_taken 1 c e p next b input output (omega arith) free h refl refl;
      osc = commands_of-other 0 es en (omega arith) ∙ h.osc;
      midi = commands_of-own 1 es en refl ∙ ap (λ cs. cs ++ c ∷ []) h.midi;
      saver = commands_of-other 2 es en (omega arith) ∙ h.saver;
      each = h.each;
      behind = behind-more (first_looper b) input es en h.behind (λ is. absurd (omega arith));
      senders = (let a = length-append es (en ∷ []) in let d = length-append p.midi (c ∷ []) in
          let f = h.senders in omega arith);
    }

pub command_step : (sender : ℕ) (c : Command) (e : EngineOf) (p : Passed) → sender < 2 →
    p.held ≡ None →
    let en = entry_of sender c e in
    StayInStep e p (took en e) (with_command sender c (reply en e.looper) p)
command_step zero c e p two free = osc_step c e p free
command_step (suc zero) c e p two free = midi_step c e p free
command_step (suc (suc n)) c e p two free = absurd (omega arith)

-- what is due
pub apart_in : (b : Beginning) (input output : List Sound) (e : EngineOf) (p : Passed) →
    AreInStep b input output e p → AreAllApart (waiting e)
apart_in b input output e p h =
    waiting_apart b (so_far input output h.answered e p) e h.begins h.engine

pub release_clears : (b : Beginning) (input output : List Sound) (target : Target) (o : ℕ)
    (e : EngineOf) (p : Passed) → AreInStep b input output e p → due_target e ≡ Some target →
    ClearsSent (entry_of 2 (Release target o) e) e
release_clears b input output target o e p h due =
    due_clears (entry_of 2 (Release target o) e) e target o due refl
    (apart_in b input output e p h)

saves_moved : (answered : List Save) (oldest : Save) (due rest sending made last : List Save) →
    due ≡ oldest ∷ rest → made ≡ [] → last ≡ rest ++ sending →
    (answered ++ (due ++ sending)) ++ made ≡ (answered ++ oldest ∷ []) ++ last
saves_moved answered oldest due rest sending made last is none now =
    ap₂ (λ ds ms. (answered ++ (ds ++ sending)) ++ ms) is none
    ∙ append-nil (answered ++ ((oldest ∷ rest) ++ sending))
    ∙ sym (append_assoc answered (oldest ∷ []) (rest ++ sending))
    ∙ ap (λ ss. (answered ++ oldest ∷ []) ++ ss) (sym now)

-- how many releases and saves there are
release_behind : (b : Beginning) (input output : List Sound) (e : EngineOf) (p : Passed)
    (en : Entry) → (h : AreInStep b input output e p) → en.frame ≡ e.frames →
    1 ≤ length (waiting e) →
    length (entries_of 2 e.journal.entries)
    < length (run_before e.journal.entries en input (first_looper b)).saves
release_behind b input output e p en h now some =
    let es = e.journal.entries
    in let many : length (entries_of 2 es) ≡ length p.saver =
    sym (length-commands_of 2 es) ∙ ap length h.saver ∙ releases-count h.answered p.saver h.each
    in let long = h.engine.frames
    in let whole : take en.frame input ≡ input = take_all en.frame input (omega arith)
    in let ran : (run_before es en input (first_looper b)).saves ≡ h.answered ++ waiting e =
    ap (λ zs. (run es zs (first_looper b)).saves) whole ∙ ap (λ (r : Ran). r.saves) h.engine.ran
    in let size = ap length ran
    in let both = length-append h.answered (waiting e)
    in let each = h.each
    in omega arith

pub outcome_step : (target : Target) (o : ℕ) (e : EngineOf) (p : Passed) →
    due_target e ≡ Some target →
    is_release_target (length e.looper.tracks) target ≡ true → is_outcome o ≡ true →
    p.held ≡ None →
    let en = entry_of 2 (Release target o) e in
    StayInStep e p (took en e) (with_outcome o (reply en e.looper) p)
outcome_step target o e p is there ends free = λ b input output h.
    let en = entry_of 2 (Release target o) e
    in let es = e.journal.entries
    in let next = with_outcome o (reply en e.looper) p
    in let due = oldest_is e.due target is
    in let apart = apart_in b input output e p h
    in let wait : waiting (took en e) ≡ due.rest ++ e.sending =
    waiting-release target o e due there ends apart
    in let before : waiting e ≡ due.oldest ∷ (due.rest ++ e.sending) =
    ap (λ ss. ss ++ e.sending) due.is
    in let some = ap length before
    in let none : option_to_list (save en e.looper) ≡ [] =
    ap option_to_list (release-saves target o e)
    in let more = length-append h.answered (due.oldest ∷ [])
    in record {
      begins = h.begins;
      answered = h.answered ++ due.oldest ∷ [];
      engine = taken en b input output h.answered (h.answered ++ due.oldest ∷ []) e p next refl refl
          (release_clears b input output target o e p h is)
          (reply_behind p.replies p.held (reply en e.looper) free)
          (saves_moved h.answered due.oldest e.due due.rest e.sending _ (waiting (took en e))
          due.is none wait)
          refl h.engine;
      osc = commands_of-other 0 es en (omega arith) ∙ h.osc;
      midi = commands_of-other 1 es en (omega arith) ∙ h.midi;
      saver = commands_of-own 2 es en refl ∙ ap (λ cs. cs ++ Release target o ∷ []) h.saver
          ∙ ap (λ t. releases_of h.answered p.saver ++ Release t o ∷ []) (sym due.target_is)
          ∙ sym (releases-more h.answered due.oldest p.saver o h.each);
      each = (let a = h.each in let d = length-append p.saver (o ∷ []) in omega arith);
      behind = behind-more (first_looper b) input es en h.behind
          (λ is. release_behind b input output e p en h refl (omega arith));
      senders = (let a = length-append es (en ∷ []) in let d = length-append p.saver (o ∷ []) in
          let f = h.senders in omega arith);
    }

pub frames_step : (xs : List Sound) (e : EngineOf) (p : Passed) →
    GoOnInStep xs (put_out xs e) e p (went_on xs e) p
frames_step xs e p = λ b input output h.
    record {
      begins = h.begins;
      answered = h.answered;
      engine = went_on_in_step b (so_far input output h.answered e p) xs e h.engine;
      osc = h.osc;
      midi = h.midi;
      saver = h.saver;
      each = h.each;
      behind = behind-frames (first_looper b) input xs e.journal.entries e.frames h.engine.frames
          h.engine.before h.behind;
      senders = h.senders;
    }

pub held_step : (e : EngineOf) (p next : Passed) → PutsHeld p next → StayInStep e p e next
held_step e p next put = λ b input output h.
    record {
      begins = h.begins;
      answered = h.answered;
      engine = subst (λ s. IsInStep b s e)
          (same_lists (so_far input output h.answered e next) _ _ _ _ _ refl refl
          (sym put.replies) refl (sym put.blocks)) h.engine;
      osc = h.osc ∙ sym put.osc;
      midi = h.midi ∙ sym put.midi;
      saver = h.saver ∙ ap (releases_of h.answered) (sym put.saver);
      each = h.each ∙ ap length (sym put.saver);
      behind = h.behind;
      senders = (let a = ap length put.osc in let d = ap length put.midi in
          let f = ap length put.saver in let g = h.senders in omega arith);
    }

-- a block
pub block_step : (block : Block) (e : EngineOf) (p : Passed) → next_block e ≡ Some block →
    StayInStep e p (block_sent e) (with_block block p)
block_step block e p is = λ b input output h.
    let now = only_sends e
    in let same = ap (λ (j : JournalOf). j.entries) now.journal
    in record {
      begins = h.begins;
      answered = h.answered;
      engine = subst (λ s. IsInStep b s (block_sent e))
          (same_lists (so_far input output h.answered (block_sent e) (with_block block p)) _ _ _ _ _
          refl refl refl (ap (λ ss. h.answered ++ ss) (sym now.saves))
          (ap (λ o. p.blocks ++ option_to_list o) is))
          (block_sent_in_step b (so_far input output h.answered e p) e h.engine);
      osc = ap (commands_of 0) same ∙ h.osc;
      midi = ap (commands_of 1) same ∙ h.midi;
      saver = ap (commands_of 2) same ∙ h.saver;
      each = h.each;
      behind = subst (AreBehindTheirSaves (first_looper b) input) (sym same) h.behind;
      senders = (let a = ap length same in let f = h.senders in omega arith);
    }

-- before all steps
no_entry : {X : Type 0} (before : List X) (e : X) (after : List X) → [] ≡ before ++ e ∷ after → ⊥
no_entry before e after is =
    let a = ap length is in let b = length-append before (e ∷ after) in omega arith

pub begin_in_step : (b : Beginning) → IsBeginning b.settings b.chunks b.initial →
    IsInStep b nothing (first_engine b) → AreInStep b [] [] (first_engine b) none_passed
begin_in_step b begins engine =
    record {
      begins = begins;
      answered = [];
      engine = engine;
      osc = refl;
      midi = refl;
      saver = refl;
      each = refl;
      behind = λ before e after is of_saver. absurd (no_entry before e after is);
      senders = refl;
    }

-- a new engine and new rings are in step
pub new_in_step : (b : Beginning) → IsBeginning b.settings b.chunks b.initial →
    AreInStep b [] [] (first_engine b) none_passed
new_in_step b begins =
    begin_in_step b begins
    (record {
      ran = refl;
      frames = refl;
      before = All-nil (λ (en : Entry). en.frame ≤ 0);
      unanswered = refl;
      blocks = refl;
      part = refl;
      quota = refl;
      stamped = refl;
    })
