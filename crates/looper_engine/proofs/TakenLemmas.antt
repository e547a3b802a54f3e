-- Taking an entry.
use Rattle.std.proofs.Common.{◌≡◌, ℕ, zero, suc, ◌+◌, ◌<◌, ◌≤◌, Bool, true, false, not, List, [], ◌∷◌, ◌++◌, length, Option, Some, None, refl, sym, ap, ap₂, ◌∙◌, subst, arith, append-nil, length-append}
use Rattle.std.specs.Prelude.{◌==◌, nat_le, is_some, option_map, option_to_list, if◌then◌else◌, filter}
use Rattle.std.proofs.lemmas.List.{length-map, map-append}
use Rattle.std.proofs.lemmas.List.Elements.{filter-append}
use Rattle.sl_commands.specs.declared.Target.{Target}
use Rattle.sl_commands.specs.declared.Target.TheVariants.{One, All, Selected}
use Rattle.sl_commands.specs.declared.Command.{Command}
use Rattle.sl_commands.specs.declared.Command.TheVariants.{Down, Up, Hit, Set, SetGlobal, Get, GetGlobal, SaveLoop, SaveSession, Release, Quit}
use Rattle.sl_commands.specs.declared.Entry.{Entry}
use Rattle.sl_commands.specs.declared.Reply.{Reply}
use Rattle.sl_commands.specs.Entries.{entries_of, is_sender, last_frame_from}
use Rattle.sl_commands.specs.Commands.{is_allowed}
use Rattle.std.proofs.lemmas.Bool.{and_parts, ltb-true, leb-true, ne_eqb}
use Rattle.sl_base.specs.Limits.{max_loops, max_value, max_quota}
use Rattle.looper_engine.proofs.ApartLemmas.{few_wait}
use Rattle.engine_steps.specs.InStep.{SoFar, IsInStep, with_taken}
use Rattle.engine_steps.specs.Engines.{Beginning}
use Rattle.engine_steps.proofs.StepLemmas.{took_in_step}
use Rattle.looper_laws.proofs.Kept.Runs.{entry_keeps}
use Rattle.run_laws.proofs.Saves.Owners.{applied-holds}
use Rattle.run_laws.proofs.Saves.Apart.{after_apart}
use Rattle.engine_steps.proofs.StepLemmas.{waiting_took, part_more}
use Rattle.looper_rules.specs.Looper.{Asker, Track, Looper, index_of}
use Rattle.looper_rules.specs.Saves.{Save, session_refusal}
use Rattle.looper_rules.specs.Entries.{is_taken, applied, reply, save, save_of, unless_refused, track_of, refusal_at, loop_save, session_save, saves_loop, saves_session, performed, releases, asker_of}
use Rattle.looper_rules.specs.Unanswered.{answers, still_unanswered, holds_of, IsHeld, HoldPins}
use Rattle.looper_rules.specs.Reached.{KeepsLooper}
use Rattle.run_laws.specs.Apart.{AreAllApart}
use Rattle.frame_stamp.specs.Journals.{JournalOf, next_seq, next_entry}
use Rattle.engine_steps.specs.Engines.{EngineOf, waiting, left_unanswered, ClearsSent, took, entry_of}
use Rattle.looper_engine.specs.declared.queue.Pending.{Pending}
use Rattle.looper_engine.specs.Queues.{QueueOf, left_by, settled, joined, HasPlace, target_in, released_by, asked_by}
use Rattle.looper_engine.specs.Holding.{held_save, held_saves}
use Rattle.looper_engine.specs.EngineParts.{engine_of, IsEngine}
use Rattle.looper_engine.proofs.HoldingLemmas.{AreHeld, held_saves-still, held_is, all_left, all_right}

-- a save without its lists
abbrev pub without_lists : Save → Pending
without_lists s =
    record { number = s.number; target = s.target; name = s.name; settings = s.settings }

-- what was asked for is the save that was made, without its lists
made_of_loop : (refusal : Option ℕ) (t : Option Track) (target : Target) (name : List ℕ)
    (l : Looper) →
    (let s = unless_refused refusal (option_map (loop_save target name l) t)
    in if is_some s then asked_by (SaveLoop target name) l else None)
    ≡ option_map without_lists (unless_refused refusal (option_map (loop_save target name l) t))
made_of_loop (Some n) t target name l = refl
made_of_loop None None target name l = refl
made_of_loop None (Some t) target name l = refl

made_of_session : (refusal : Option ℕ) (name : List ℕ) (l : Looper) →
    (let s = unless_refused refusal (Some (session_save name l))
    in if is_some s then asked_by (SaveSession name) l else None)
    ≡ option_map without_lists (unless_refused refusal (Some (session_save name l)))
made_of_session (Some n) name l = refl
made_of_session None name l = refl

made_by : (command : Command) (l : Looper) →
    (if is_some (save_of command l) then asked_by command l else None)
    ≡ option_map without_lists (save_of command l)
made_by (SaveLoop target name) l =
    made_of_loop (refusal_at target l) (track_of target l) target name l
made_by (SaveSession name) l = made_of_session (session_refusal l.tracks) name l
made_by (Down target verb) l = refl
made_by (Up target verb) l = refl
made_by (Hit target verb) l = refl
made_by (Set target control value) l = refl
made_by (SetGlobal control value) l = refl
made_by (Get target control) l = refl
made_by (GetGlobal control) l = refl
made_by (Release target outcome) l = refl
made_by Quit l = refl

made_if : (taken : Bool) (command : Command) (l : Looper) →
    (let s = if taken then save_of command l else None
    in if is_some s then asked_by command l else None)
    ≡ option_map without_lists (if taken then save_of command l else None)
made_if true command l = made_by command l
made_if false command l = refl

pub made_is : (en : Entry) (l : Looper) →
    (if is_some (save en l) then asked_by en.command l else None)
    ≡ option_map without_lists (save en l)
made_is en l = made_if (is_taken en l) en.command l

-- the saves that a release leaves, with their lists
held_left : (l : Looper) (target : Target) (ps : List Pending) →
    held_saves l (left_by target ps)
    ≡ filter (λ (s : Save). not (answers target s.target)) (held_saves l ps)
held_left l target [] = refl
held_left l target (p ∷ ps) = by_test (answers target p.target) (held_left l target ps)
  where
    by_test : (b : Bool) →
        held_saves l (left_by target ps)
        ≡ filter (λ (s : Save). not (answers target s.target)) (held_saves l ps) →
        held_saves l (if not b then p ∷ left_by target ps else left_by target ps)
        ≡ (if not b then held_save l p ∷ filter (λ (s : Save). not (answers target s.target))
        (held_saves l ps) else filter (λ (s : Save). not (answers target s.target))
        (held_saves l ps))
    by_test true rest = rest
    by_test false rest = ap (λ ss. held_save l p ∷ ss) rest

-- the due part of a queue that was settled
settled_due : (l : Looper) (command : Command) (q : QueueOf) →
    held_saves l (settled (target_in command) q).due ≡ still_unanswered command (held_saves l q.due)
settled_due l (Release target outcome) q = held_left l target q.due
settled_due l (Down target verb) q = refl
settled_due l (Up target verb) q = refl
settled_due l (Hit target verb) q = refl
settled_due l (Set target control value) q = refl
settled_due l (SetGlobal control value) q = refl
settled_due l (Get target control) q = refl
settled_due l (GetGlobal control) q = refl
settled_due l (SaveLoop target name) q = refl
settled_due l (SaveSession name) q = refl
settled_due l Quit q = refl

settled_if : (taken : Bool) (l : Looper) (command : Command) (q : QueueOf) →
    held_saves l (settled (if taken then target_in command else None) q).due
    ≡ (if taken then still_unanswered command (held_saves l q.due) else held_saves l q.due)
settled_if true l command q = settled_due l command q
settled_if false l command q = refl

pub settled_is : (en : Entry) (l : Looper) (q : QueueOf) →
    held_saves l (settled (released_by en.sender en.command (length l.tracks)) q).due
    ≡ left_unanswered en l (held_saves l q.due)
settled_is en l q = settled_if (is_taken en l) l en.command q

-- the saves behind an entry, by the fields
settled_sending : (released : Option Target) (q : QueueOf) →
    (settled released q).sending ≡ q.sending
settled_sending None q = refl
settled_sending (Some target) q = refl

settled_part : (released : Option Target) (q : QueueOf) → (settled released q).part ≡ q.part
settled_part None q = refl
settled_part (Some target) q = refl

joined_due : (made : Option Pending) (q : QueueOf) → (joined made q).due ≡ q.due
joined_due None q = refl
joined_due (Some p) q = refl

joined_part : (made : Option Pending) (q : QueueOf) → (joined made q).part ≡ q.part
joined_part None q = refl
joined_part (Some p) q = refl

joined_sending : (made : Option Pending) (q : QueueOf) →
    (joined made q).sending ≡ q.sending ++ option_to_list made
joined_sending None q = sym (append-nil q.sending)
joined_sending (Some p) q = refl

-- the saves that wait behind an entry are held by the looper behind it
pub taken_held : (en : Entry) (e : EngineOf) → ClearsSent en e → IsEngine e →
    HoldPins (waiting (took en e)) (holds_of (applied e.frames en e.looper))
taken_held en e clears is =
    subst (λ saves. HoldPins saves (holds_of (applied e.frames en e.looper)))
    (sym (waiting_took en e clears))
    (applied-holds e.frames en e.looper (waiting e) is.kept is.held)

pub taken_apart : (en : Entry) (e : EngineOf) → ClearsSent en e → IsEngine e →
    AreAllApart (waiting (took en e))
taken_apart en e clears is =
    subst AreAllApart (sym (waiting_took en e clears))
    (after_apart e.frames en e.looper (waiting e) is.kept is.held is.apart)

-- the one save that was made has the lists that are pinned now
made_held : (now : Looper) (made : Option Save) → AreHeld now (option_to_list made) →
    held_saves now (option_to_list (option_map without_lists made)) ≡ option_to_list made
made_held now None held = refl
made_held now (Some s) held = ap (λ x. x ∷ []) (held_is now s held.0)

-- the queue of the fields behind an entry is that of the engine behind it
abbrev pub queue_taken : Entry → Looper → QueueOf → QueueOf
queue_taken en l q =
    joined (option_map without_lists (save en l))
    (settled (released_by en.sender en.command (length l.tracks)) q)

due_taken : (en : Entry) (l now : Looper) (q : QueueOf) →
    AreHeld now (left_unanswered en l (held_saves l q.due)) →
    held_saves now (queue_taken en l q).due ≡ left_unanswered en l (held_saves l q.due)
due_taken en l now q held =
    let released = released_by en.sender en.command (length l.tracks)
    in let before = settled_is en l q
    in ap (held_saves now) (joined_due (option_map without_lists (save en l)) (settled released q))
    ∙ held_saves-still l now (settled released q).due (subst (AreHeld now) (sym before) held)
    ∙ before

sending_taken : (en : Entry) (l now : Looper) (q : QueueOf) → AreHeld now (held_saves l q.sending) →
    AreHeld now (option_to_list (save en l)) →
    held_saves now (queue_taken en l q).sending
    ≡ held_saves l q.sending ++ option_to_list (save en l)
sending_taken en l now q held made =
    let released = released_by en.sender en.command (length l.tracks)
    in ap (held_saves now)
    (joined_sending (option_map without_lists (save en l)) (settled released q)
    ∙ ap (λ ps. ps ++ option_to_list (option_map without_lists (save en l)))
    (settled_sending released q))
    ∙ map-append (held_save now) q.sending (option_to_list (option_map without_lists (save en l)))
    ∙ ap₂ (λ xs ys. xs ++ ys) (held_saves-still l now q.sending held)
    (made_held now (save en l) made)

part_taken : (en : Entry) (l : Looper) (q : QueueOf) → (queue_taken en l q).part ≡ q.part
part_taken en l q =
    joined_part (option_map without_lists (save en l))
    (settled (released_by en.sender en.command (length l.tracks)) q)
    ∙ settled_part (released_by en.sender en.command (length l.tracks)) q

same_engine : (l : Looper) (j : JournalOf) (frames : ℕ) (due due' sending sending' : List Save)
    (part part' : ℕ) → due ≡ due' → sending ≡ sending' → part ≡ part' →
    record { looper = l; journal = j; frames = frames; due = due; sending = sending; part = part }
    ≡ (let e : EngineOf =
    record {
      looper = l;
      journal = j;
      frames = frames;
      due = due';
      sending = sending';
      part = part';
    } in e)
same_engine l j frames due due' sending sending' part part' a b c = cc

pub took_is : (en : Entry) (l : Looper) (j : JournalOf) (frames : ℕ) (q : QueueOf) →
    ClearsSent en (engine_of l j frames q) → IsEngine (engine_of l j frames q) →
    engine_of (applied frames en l) (record j { entries = j.entries ++ en ∷ [] }) frames
    (queue_taken en l q) ≡ took en (engine_of l j frames q)
took_is en l j frames q clears is =
    let e = engine_of l j frames q
    in let now = applied frames en l
    in let held = (taken_held en e clears is).held
    in let sent : AreHeld now (held_saves l q.sending ++ option_to_list (save en l)) =
    all_right (λ s. IsHeld s.target s.lists (holds_of now)) (left_unanswered en l e.due) _ held
    in same_engine now (record j { entries = j.entries ++ en ∷ [] }) frames _ _ _ _ _ _
    (due_taken en l now q
    (all_left (λ s. IsHeld s.target s.lists (holds_of now)) (left_unanswered en l e.due) _
    held))
    (sending_taken en l now q
    (all_left (λ s. IsHeld s.target s.lists (holds_of now)) (held_saves l q.sending) _ sent)
    (all_right (λ s. IsHeld s.target s.lists (holds_of now)) (held_saves l q.sending) _ sent))
    (part_taken en l q)

-- how many saves the entries of a sender may make
abbrev asks_of : ℕ → ℕ
asks_of zero = 1
asks_of (suc zero) = 1
asks_of (suc (suc sender)) = 0

saves_if : (refusal : Option ℕ) (k : ℕ) (asker : Asker) (l : Looper) →
    (saves_loop refusal k asker l).saves ≤ l.saves + 1
saves_if None k asker l = omega arith
saves_if (Some n) k asker l = omega arith

saves_all_if : (refusal : Option ℕ) (asker : Asker) (l : Looper) →
    (saves_session refusal asker l).saves ≤ l.saves + 1
saves_all_if None asker l = omega arith
saves_all_if (Some n) asker l = omega arith

same_saves : (n more : ℕ) → n ≤ n + more
same_saves n more = omega arith

released_saves : (target : Target) (l : Looper) → (releases target l).saves ≡ l.saves
released_saves (One k) l = refl
released_saves All l = refl
released_saves Selected l = refl

saves_performed : (sender : ℕ) (command : Command) (frame : ℕ) (en : Entry) (l : Looper) →
    is_sender sender command ≡ true →
    (performed command frame en l).saves ≤ l.saves + asks_of sender
saves_performed zero (SaveLoop target name) frame en l valid =
    saves_if (refusal_at target l) (index_of target l.globals.selected_loop_num) (asker_of en false)
    l
saves_performed (suc zero) (SaveLoop target name) frame en l valid =
    saves_if (refusal_at target l) (index_of target l.globals.selected_loop_num) (asker_of en false)
    l
saves_performed (suc (suc sender)) (SaveLoop target name) frame en l valid =
    absurd (let less = ltb-true (suc (suc sender)) 2 valid in omega arith)
saves_performed zero (SaveSession name) frame en l valid =
    saves_all_if (session_refusal l.tracks) (asker_of en true) l
saves_performed (suc zero) (SaveSession name) frame en l valid =
    saves_all_if (session_refusal l.tracks) (asker_of en true) l
saves_performed (suc (suc sender)) (SaveSession name) frame en l valid =
    absurd (let less = ltb-true (suc (suc sender)) 2 valid in omega arith)
saves_performed sender (Release target outcome) frame en l valid = let same =
    released_saves target l in omega arith
saves_performed sender (Down target verb) frame en l valid = same_saves l.saves (asks_of sender)
saves_performed sender (Up target verb) frame en l valid = same_saves l.saves (asks_of sender)
saves_performed sender (Hit target verb) frame en l valid = same_saves l.saves (asks_of sender)
saves_performed sender (Set target control value) frame en l valid =
    same_saves l.saves (asks_of sender)
saves_performed sender (SetGlobal control value) frame en l valid =
    same_saves l.saves (asks_of sender)
saves_performed sender (Get target control) frame en l valid = same_saves l.saves (asks_of sender)
saves_performed sender (GetGlobal control) frame en l valid = same_saves l.saves (asks_of sender)
saves_performed sender Quit frame en l valid = same_saves l.saves (asks_of sender)

saves_applied : (frame : ℕ) (en : Entry) (l : Looper) →
    (applied frame en l).saves ≤ l.saves + asks_of en.sender
saves_applied frame en l = by_taken (is_taken en l) refl
  where
    by_taken : (b : Bool) → is_taken en l ≡ b →
        (if b then performed en.command frame en l else l).saves ≤ l.saves + asks_of en.sender
    by_taken true taken =
        saves_performed en.sender en.command frame en l
        (and_parts (is_sender en.sender en.command) (is_allowed (length l.tracks) en.command)
        taken).0
    by_taken false taken = same_saves l.saves (asks_of en.sender)

-- the next numbers of the senders 0 and 1 behind an entry
next_seqs : (sender : ℕ) (es : List Entry) (en : Entry) → en.sender ≡ sender →
    next_seq 0 (es ++ en ∷ []) + next_seq 1 (es ++ en ∷ [])
    ≡ next_seq 0 es + next_seq 1 es + asks_of sender
next_seqs sender es en is =
    ap₂ (λ m n. m + n) (seq_more 0 es en) (seq_more 1 es en)
    ∙ by_sender sender is
  where
    seq_more : (k : ℕ) (xs : List Entry) (x : Entry) →
        next_seq k (xs ++ x ∷ []) ≡ next_seq k xs + length (entries_of k (x ∷ []))
    seq_more k xs x = ap length (filter-append (λ (e : Entry). e.sender == k) xs (x ∷ []))
        ∙ length-append (entries_of k xs) (entries_of k (x ∷ []))

    by_sender : (n : ℕ) → en.sender ≡ n →
        next_seq 0 es + length
        (entries_of 0 (en ∷ [])) + (next_seq 1 es + length (entries_of 1 (en ∷ [])))
        ≡ next_seq 0 es + next_seq 1 es + asks_of n
    by_sender zero here =
        let first : length (entries_of 0 (en ∷ [])) ≡ 1 =
        ap (λ k. length (if k == 0 then en ∷ [] else [])) here
        in let second : length (entries_of 1 (en ∷ [])) ≡ 0 =
        ap (λ k. length (if k == 1 then en ∷ [] else [])) here
        in omega arith
    by_sender (suc zero) here =
        let first : length (entries_of 0 (en ∷ [])) ≡ 0 =
        ap (λ k. length (if k == 0 then en ∷ [] else [])) here
        in let second : length (entries_of 1 (en ∷ [])) ≡ 1 =
        ap (λ k. length (if k == 1 then en ∷ [] else [])) here
        in omega arith
    by_sender (suc (suc n)) here =
        let other : (k : ℕ) → k < 2 → length (entries_of k (en ∷ [])) ≡ 0 = λ k less.
        ap (λ sender. length (if sender == k then en ∷ [] else [])) here
        ∙ ap (λ b. length (if b then en ∷ [] else []))
        (ne_eqb (suc (suc n)) k (λ same. omega arith))
        in let first = other 0 (omega arith)
        in let second = other 1 (omega arith)
        in omega arith

-- an engine that took an entry keeps what it keeps
last_of_more : (frame : ℕ) (es : List Entry) (en : Entry) →
    last_frame_from frame (es ++ en ∷ []) ≡ en.frame
last_of_more frame [] en = refl
last_of_more frame (e ∷ es) en = last_of_more e.frame es en

pub took_keeps : (en : Entry) (e : EngineOf) → en.frame ≡ e.frames → ClearsSent en e → IsEngine e →
    IsEngine (took en e)
took_keeps en e now clears is =
    record {
      kept = entry_keeps e.frames en e.looper is.kept;
      held = taken_held en e clears is;
      apart = taken_apart en e clears is;
      part = part_more e.sending e.part (save en e.looper) is.part;
      before = (let same = last_of_more 0 e.journal.entries en in omega arith);
      asked =
          (let made = saves_applied e.frames en e.looper
          in let seqs = next_seqs en.sender e.journal.entries en refl
          in let asked = is.asked in omega arith);
      within = is.within;
    }

-- how many loops there are
loop_count : (frame : ℕ) (l : Looper) → KeepsLooper frame l →
    (nat_le 1 (length l.tracks) ≡ true) × (nat_le (length l.tracks) max_loops ≡ true)
loop_count frame l is =
    and_parts (nat_le 1 (length l.tracks)) (nat_le (length l.tracks) max_loops) is.looper.count

length_made : (made : Option Save) →
    length (option_to_list (option_map without_lists made)) ≡ length (option_to_list made)
length_made None = refl
length_made (Some s) = refl

-- there is a place for the save that an entry made
has_place : (made : Option Pending) (q : QueueOf) (n : ℕ) → n ≤ max_loops →
    length q.due + length q.sending + length (option_to_list made) ≤ n → HasPlace made q
has_place None q n few all = tt
has_place (Some p) q n few all = omega arith

pub place_is : (en : Entry) (l : Looper) (j : JournalOf) (frames : ℕ) (q : QueueOf) →
    ClearsSent en (engine_of l j frames q) → IsEngine (engine_of l j frames q) →
    HasPlace (option_map without_lists (save en l))
    (settled (released_by en.sender en.command (length l.tracks)) q)
place_is en l j frames q clears is =
    let e = engine_of l j frames q
    in let now = applied frames en l
    in let released = released_by en.sender en.command (length l.tracks)
    in let keeps = entry_keeps frames en l is.kept
    in let wait : length (waiting (took en e)) ≤ length now.tracks =
    few_wait now (waiting (took en e))
    (leb-true 1 (length now.tracks) (loop_count frames now keeps).0)
    (taken_held en e clears is).held (taken_apart en e clears is)
    in let few = leb-true (length now.tracks) max_loops (loop_count frames now keeps).1
    in let due : length (settled released q).due ≡ length (left_unanswered en l e.due) =
    sym (length-map (settled released q).due (held_save l)) ∙ ap length (settled_is en l q)
    in let sending : length (settled released q).sending ≡ length e.sending =
    ap length (settled_sending released q) ∙ sym (length-map q.sending (held_save l))
    in let made : length (option_to_list (option_map without_lists (save en l)))
    ≡ length (option_to_list (save en l)) = length_made (save en l)
    in let all =
    length-append (left_unanswered en l e.due) (e.sending ++ option_to_list (save en l))
    in let rest = length-append e.sending (option_to_list (save en l))
    in has_place (option_map without_lists (save en l)) (settled released q) (length now.tracks) few
    (omega arith)

-- what the fields of an engine that took a command are
pub record Taken (l now : Looper) (j j' : JournalOf) (frames : ℕ)
    (q settled_queue joined_queue : QueueOf) (sender seq : ℕ) (command : Command)
    (made : Option Pending) (released : Option Target) : Type 0 where
  pub seq_is : seq ≡ next_seq sender j.entries
  pub looper_is : now
      ≡ applied frames (record { frame = frames; sender = sender; seq = seq; command = command }) l
  pub made_as : made
      ≡ (if is_some
      (save (record { frame = frames; sender = sender; seq = seq; command = command }) l) then
      asked_by command l else None)
  pub released_is : released ≡ released_by sender command (length l.tracks)
  pub entries_are : j'.entries ≡ j.entries ++ next_entry frames sender command j.entries ∷ []
  pub quota_is : j'.quota ≡ j.quota
  pub settled_as : settled_queue ≡ settled released q
  pub joined_as : joined_queue ≡ joined made settled_queue

made_taken : (frames sender seq seq' : ℕ) (command : Command) (l : Looper) (made : Option Pending) →
    seq ≡ seq' →
    made ≡ (if is_some
    (save (record { frame = frames; sender = sender; seq = seq; command = command }) l) then
    asked_by command l else None) →
    made ≡ option_map without_lists
    (save (record { frame = frames; sender = sender; seq = seq'; command = command }) l)
made_taken frames sender seq seq' command l made same is =
    is ∙ ap
    (λ n.
    if is_some (save (record { frame = frames; sender = sender; seq = n; command = command }) l)
    then asked_by command l else None) same
    ∙ made_is (record { frame = frames; sender = sender; seq = seq'; command = command }) l

pub taken_place : (l : Looper) (j : JournalOf) (frames : ℕ) (q qs : QueueOf) (e : EngineOf)
    (sender seq : ℕ) (command : Command) (made : Option Pending) (released : Option Target) →
    engine_of l j frames q ≡ e → IsEngine (engine_of l j frames q) →
    ClearsSent (entry_of sender command e) e → seq ≡ next_seq sender j.entries →
    made ≡ (if is_some
    (save (record { frame = frames; sender = sender; seq = seq; command = command }) l) then
    asked_by command l else None) →
    released ≡ released_by sender command (length l.tracks) → qs ≡ settled released q →
    HasPlace made qs
taken_place l j frames q qs e sender seq command made released view is clears seq_is made_as
    released_is settled_as =
    let en = next_entry frames sender command j.entries
    in let here =
    place_is en l j frames q
    (subst (λ (x : EngineOf). ClearsSent (entry_of sender command x) x) (sym view) clears) is
    in let queue : settled (released_by sender command (length l.tracks)) q ≡ qs =
    ap (λ r. settled r q) (sym released_is) ∙ sym settled_as
    in let same : option_map without_lists (save en l) ≡ made =
    sym (made_taken frames sender seq (next_seq sender j.entries) command l made seq_is made_as)
    in subst (λ m. HasPlace m qs) same
    (subst (HasPlace (option_map without_lists (save en l))) queue here)

pub taken_is : (l now : Looper) (j j' : JournalOf) (frames : ℕ) (q qs qj : QueueOf) (e : EngineOf)
    (sender seq : ℕ) (command : Command) (made : Option Pending) (released : Option Target) →
    engine_of l j frames q ≡ e → IsEngine (engine_of l j frames q) →
    ClearsSent (entry_of sender command e) e →
    Taken l now j j' frames q qs qj sender seq command made released →
    engine_of now j' frames qj ≡ took (entry_of sender command e) e
taken_is l now j j' frames q qs qj e sender seq command made released view is clears t =
    let en = next_entry frames sender command j.entries
    in let looper : now ≡ applied frames en l = t.looper_is
    ∙ ap
    (λ n.
    applied frames (record { frame = frames; sender = sender; seq = n; command = command }) l)
    t.seq_is
    in let journal : j' ≡ record j { entries = j.entries ++ en ∷ [] } =
    ap₂ (λ es n. let x : JournalOf = record { entries = es; quota = n } in x) t.entries_are
    t.quota_is
    in let same : made ≡ option_map without_lists (save en l) =
    made_taken frames sender seq (next_seq sender j.entries) command l made t.seq_is t.made_as
    in let queue : qj ≡ queue_taken en l q = t.joined_as
    ∙ ap₂ (λ m x. joined m x) same (t.settled_as ∙ ap (λ r. settled r q) t.released_is)
    in ap₂ (λ (m : Looper) (x : JournalOf). engine_of m x frames qj) looper journal
    ∙ ap (λ x. engine_of (applied frames en l) (record j { entries = j.entries ++ en ∷ [] }) frames
    x) queue
    ∙ took_is en l j frames q
    (subst (λ (x : EngineOf). ClearsSent (entry_of sender command x) x) (sym view) clears) is
    ∙ ap (λ (x : EngineOf). took (entry_of sender command x) x) view

pub taken_keeps : (sender : ℕ) (command : Command) (e : EngineOf) →
    ClearsSent (entry_of sender command e) e → IsEngine e →
    IsEngine (took (entry_of sender command e) e)
taken_keeps sender command e clears is = took_keeps (entry_of sender command e) e refl clears is

pub taken_steps : (sender : ℕ) (command : Command) (e now : EngineOf) (answer : Option Reply) →
    ClearsSent (entry_of sender command e) e → now ≡ took (entry_of sender command e) e →
    answer ≡ reply (entry_of sender command e) e.looper → (b : Beginning) → (s : SoFar) →
    IsInStep b s e →
    IsInStep b (with_taken answer (save (entry_of sender command e) e.looper) s) now
taken_steps sender command e now answer clears is answers b s h =
    let en = entry_of sender command e
    in subst (λ x. IsInStep b (with_taken answer (save en e.looper) s) x) (sym is)
    (subst (λ a. IsInStep b (with_taken a (save en e.looper) s) (took en e)) (sym answers)
    (took_in_step b s en e refl refl clears h))
