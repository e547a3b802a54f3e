-- What an engine that took a command or a release has due, and which saves wait.
use Rattle.std.proofs.Common.{◌≡◌, ◌≢◌, ℕ, zero, suc, ◌<◌, ◌≤◌, ℤ, pos, negsuc, Bool, true, false, not, ◌&&◌, List, [], ◌∷◌, ◌++◌, length, map, Option, Some, None, refl, sym, ap, ap₂, ◌∙◌, subst, arith, append_assoc, append-nil, eq-eqb, cond, nat_le}
use Rattle.std.specs.Prelude.{◌==◌, IsTrue, is_some, slice_get, option_map, option_and_then, option_to_list, if◌then◌else◌}
use Rattle.std.specs.List.{AllByRecursion, filter}
use Rattle.std.proofs.lemmas.Bool.{and_parts, leb-true}
use Rattle.sl_base.specs.Sounds.{Sound}
use Rattle.sl_commands.specs.declared.Target.{Target}
use Rattle.sl_commands.specs.declared.Target.TheVariants.{One, All as AllOfThem, Selected}
use Rattle.sl_commands.specs.declared.What.TheVariants.{Save as OfLoop, Session as OfSession}
use Rattle.sl_commands.specs.declared.Command.{Command}
use Rattle.sl_commands.specs.declared.Command.TheVariants.{Release}
use Rattle.sl_commands.specs.declared.Entry.{Entry}
use Rattle.sl_commands.specs.Entries.{is_sender, is_valid}
use Rattle.sl_commands.specs.Commands.{is_allowed, is_release_target, is_outcome}
use Rattle.looper_rules.specs.Looper.{Asker, Track, Looper}
use Rattle.looper_rules.specs.Saves.{Save, loop_asker, session_asker, asker_or, running_session}
use Rattle.looper_rules.specs.Entries.{is_taken, save, save_of, reply, release_reply, outcome_for, ended_asker}
use Rattle.looper_rules.specs.Unanswered.{still_unanswered, answers, Hold, hold_on, holds_of, HoldsLoop, IsHeld, HoldPins}
use Rattle.looper_rules.specs.Reached.{IsBeginning}
use Rattle.run_laws.specs.Apart.{AreApart, AreAllApart}
use Rattle.engine_steps.specs.Engines.{EngineOf, Beginning, waiting, first_of, due_target, target_of, left_unanswered, ClearsSent, took, entry_of}
use Rattle.engine_steps.specs.InStep.{SoFar, IsInStep}
use Rattle.engine_steps.specs.Answering.{AnswersOldest}
use Rattle.engine_steps.proofs.ReachedLemmas.{waiting_apart, looper_kept, lists_held}
use Rattle.engine_steps.proofs.ClearLemmas.{commands_clear_nothing, all_stay}

-- a command of OSC or MIDI leaves what is due
pub due-command : (en : Entry) (e : EngineOf) → en.sender < 2 →
    left_unanswered en e.looper e.due ≡ e.due
due-command en e other = (commands_clear_nothing en (record e { sending = e.due }) other).kept

-- and its save waits behind the others
pub waiting-command : (en : Entry) (e : EngineOf) → en.sender < 2 →
    waiting (took en e) ≡ waiting e ++ option_to_list (save en e.looper)
waiting-command en e other =
    ap (λ ss. ss ++ (e.sending ++ option_to_list (save en e.looper))) (due-command en e other)
    ∙ sym (append_assoc e.due e.sending (option_to_list (save en e.looper)))

-- the oldest of what is due
pub record IsOldest (saves : List Save) (target : Target) : Type 0 where
  pub oldest : Save
  pub rest : List Save
  pub is : saves ≡ oldest ∷ rest
  pub target_is : oldest.target ≡ target

pub oldest_is : (saves : List Save) (target : Target) →
    option_map target_of (first_of saves) ≡ Some target → IsOldest saves target
oldest_is [] target is = absurd (cc)
oldest_is (s ∷ saves) target is = record { oldest = s; rest = saves; is = refl; target_is = cc }

-- what is apart from all saves is apart from the first ones
first_apart : (P : Save → Type 0) (xs ys : List Save) → AllByRecursion P (xs ++ ys) →
    AllByRecursion P xs
first_apart P [] ys all = tt
first_apart P (x ∷ xs) ys all = (all.0, first_apart P xs ys all.1)

-- a target of a release answers itself
answers_itself : (loops : ℕ) (target : Target) → is_release_target loops target ≡ true →
    answers target target ≡ true
answers_itself loops (One k) is = eq-eqb k k refl
answers_itself loops AllOfThem is = refl
answers_itself loops Selected is = absurd (cc)

-- a release of what is due is valid
release_taken : (sender : ℕ) (loops : ℕ) (target : Target) (o : ℕ) → sender ≡ 2 →
    is_release_target loops target ≡ true → is_outcome o ≡ true →
    (is_sender sender (Release target o) && is_allowed loops (Release target o)) ≡ true
release_taken sender loops target o is there ends = rw (is, there, ends) refl

first_goes : (target : Target) (o : ℕ) (s : Save) (rest : List Save) → s.target ≡ target →
    answers target target ≡ true →
    AllByRecursion (λ (x : Save). AreApart s.target x.target) rest →
    still_unanswered (Release target o) (s ∷ rest) ≡ rest
first_goes target o s rest is own apart =
    let here : answers target s.target ≡ true = ap (answers target) is ∙ own
    in ap (λ b. cond (not b) (s ∷ filter (λ (x : Save). not (answers target x.target)) rest)
    (filter (λ (x : Save). not (answers target x.target)) rest)) here
    ∙ all_stay target rest
    (subst (λ t. AllByRecursion (λ (x : Save). AreApart t x.target) rest) is apart)

if_so : {X : Type 0} (b : Bool) (x y z : X) → b ≡ true → x ≡ z → cond b x y ≡ z
if_so b x y z is same = rw is same

-- it answers the oldest, and no other
pub due-release : (target : Target) (o : ℕ) (e : EngineOf) (due : IsOldest e.due target) →
    is_release_target (length e.looper.tracks) target ≡ true → is_outcome o ≡ true →
    AreAllApart (waiting e) →
    left_unanswered (entry_of 2 (Release target o) e) e.looper e.due ≡ due.rest
due-release target o e due there ends apart =
    let loops = length e.looper.tracks
    in let apart : AreAllApart ((due.oldest ∷ due.rest) ++ e.sending) =
    subst (λ ss. AreAllApart (ss ++ e.sending)) due.is apart
    in if_so _ _ _ due.rest (release_taken 2 loops target o refl there ends)
    (ap (still_unanswered (Release target o)) due.is
    ∙ first_goes target o due.oldest due.rest due.target_is
    (answers_itself loops target there)
    (first_apart (λ (x : Save). AreApart due.oldest.target x.target) due.rest e.sending apart.0))

if_none : {X : Type 0} (b : Bool) → (if b then None else None) ≡ (let o : Option X = None in o)
if_none true = refl
if_none false = refl

pub release-saves : (target : Target) (o : ℕ) (e : EngineOf) →
    save (entry_of 2 (Release target o) e) e.looper ≡ None
release-saves target o e = if_none _

pub waiting-release : (target : Target) (o : ℕ) (e : EngineOf) (due : IsOldest e.due target) →
    is_release_target (length e.looper.tracks) target ≡ true → is_outcome o ≡ true →
    AreAllApart (waiting e) →
    waiting (took (entry_of 2 (Release target o) e) e) ≡ due.rest ++ e.sending
waiting-release target o e due there ends apart =
    ap₂ (λ ss made. ss ++ (e.sending ++ option_to_list made))
    (due-release target o e due there ends apart) (release-saves target o e)
    ∙ ap (λ ss. due.rest ++ ss) (append-nil e.sending)

-- a loop's save that is held has its asker
loop_held : (lists : List (List Sound)) (k : ℕ) (ts : List Track) →
    HoldsLoop lists (slice_get (map hold_on ts) k) →
    IsTrue (is_some (option_and_then (λ (t : Track). loop_asker t.asker) (slice_get ts k)))
loop_held lists k [] held = absurd held
loop_held lists zero (t ∷ ts) held = held.1
loop_held lists (suc k) (t ∷ ts) held = loop_held lists k ts held

-- so has a session's save
session_held : (ts : List Track) → 1 ≤ length ts →
    AllByRecursion (λ (h : Hold). IsTrue (is_some (session_asker h.asker))) (map hold_on ts) →
    IsTrue (is_some (running_session ts))
session_held [] some asked = absurd (omega arith)
session_held (t ∷ ts) some asked = by_asker (session_asker t.asker) asked.0
  where
    by_asker : (o : Option Asker) → IsTrue (is_some o) →
        IsTrue (is_some (asker_or o (running_session ts)))
    by_asker None none = absurd (cc)
    by_asker (Some asker) there = refl

mapped_some : {X Y : Type 0} (f : X → Y) (o : Option X) → IsTrue (is_some o) →
    IsTrue (is_some (option_map f o))
mapped_some f None none = absurd (cc)
mapped_some f (Some x) there = refl

-- the release of a save whose lists are held is answered
held_replied : (target : Target) (lists : List (List Sound)) (o : ℕ) (l : Looper) →
    1 ≤ length l.tracks → IsHeld target lists (holds_of l) →
    IsTrue (is_some (release_reply target o l))
held_replied (One k) lists o l some held =
    mapped_some (outcome_for (pos k) OfLoop o) (ended_asker k l) (loop_held lists k l.tracks held)
held_replied AllOfThem lists o l some held =
    mapped_some (outcome_for (negsuc 1) OfSession o) (running_session l.tracks)
    (session_held l.tracks some held.asked)
held_replied Selected lists o l some held = absurd held

pub release_replied : (target : Target) (o : ℕ) (e : EngineOf) (due : IsOldest e.due target) →
    is_release_target (length e.looper.tracks) target ≡ true → is_outcome o ≡ true →
    1 ≤ length e.looper.tracks → HoldPins (waiting e) (holds_of e.looper) →
    IsTrue (is_some (reply (entry_of 2 (Release target o) e) e.looper))
release_replied target o e due there ends some pins =
    let oldest : HoldPins (due.oldest ∷ (due.rest ++ e.sending)) (holds_of e.looper) =
    subst (λ ss. HoldPins (ss ++ e.sending) (holds_of e.looper)) due.is pins
    in let held : IsHeld target due.oldest.lists (holds_of e.looper) =
    subst (λ t. IsHeld t due.oldest.lists (holds_of e.looper)) due.target_is oldest.held.0
    in by_taken (is_taken (entry_of 2 (Release target o) e) e.looper)
    (release_taken 2 (length e.looper.tracks) target o refl there ends)
    (held_replied target due.oldest.lists o e.looper some held)
  where
    by_taken : (b : Bool) → b ≡ true → IsTrue (is_some (release_reply target o e.looper)) →
        IsTrue (is_some (if b then release_reply target o e.looper else None))
    by_taken true is replied = replied
    by_taken false is replied = absurd (cc)

-- a valid release of what is due answers the oldest save
pub oldest_answered : (b : Beginning) (s : SoFar) (target : Target) (o : ℕ) (e : EngineOf) →
    IsBeginning b.settings b.chunks b.initial → IsInStep b s e → due_target e ≡ Some target →
    is_release_target (length e.looper.tracks) target ≡ true → is_outcome o ≡ true →
    AnswersOldest target (entry_of 2 (Release target o) e) e
oldest_answered b s target o e begin h is there ends =
    let due = oldest_is e.due target is
    in let kept = looper_kept b s e begin h
    in let count = and_parts
    (nat_le 1 (length e.looper.tracks)) (nat_le (length e.looper.tracks) 16)
    kept.looper.count
    in let some : 1 ≤ length e.looper.tracks = leb-true 1 (length e.looper.tracks) count.0
    in record {
      oldest = due.oldest;
      rest = due.rest;
      before = due.is;
      target_is = due.target_is;
      due = due-release target o e due there ends (waiting_apart b s e begin h);
      sending = ap (λ made. e.sending ++ option_to_list made) (release-saves target o e)
          ∙ append-nil e.sending;
      replied = release_replied target o e due there ends some (lists_held b s e begin h);
    }
