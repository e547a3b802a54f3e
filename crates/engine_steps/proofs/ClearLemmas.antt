-- Which entries answer no save whose blocks weren't all sent.
use Rattle.std.proofs.Common.{◌≡◌, ◌≢◌, ℕ, ◌<◌, ◌≤◌, ◌+◌, Bool, true, false, not, ◌&&◌, List, [], ◌∷◌, ◌++◌, length, Option, Some, None, refl, sym, ap, ap₂, ◌∙◌, subst, arith, cond, nat_lt}
use Rattle.std.specs.Prelude.{◌==◌, IsTrue, option_map}
use Rattle.std.specs.List.{AllByRecursion, filter}
use Rattle.std.proofs.lemmas.Bool.{ne_eqb}
use Rattle.sl_commands.specs.declared.Target.{Target}
use Rattle.sl_commands.specs.declared.Target.TheVariants.{One, All, Selected}
use Rattle.sl_commands.specs.declared.Command.{Command}
use Rattle.sl_commands.specs.declared.Command.TheVariants.{Down, Up, Hit, Set, SetGlobal, Get, GetGlobal, SaveLoop, SaveSession, Release, Quit}
use Rattle.sl_commands.specs.declared.Entry.{Entry}
use Rattle.sl_commands.specs.Entries.{is_sender}
use Rattle.sl_commands.specs.Commands.{is_allowed}
use Rattle.looper_rules.specs.Looper.{Looper}
use Rattle.looper_rules.specs.Saves.{Save}
use Rattle.looper_rules.specs.Entries.{is_taken}
use Rattle.looper_rules.specs.Unanswered.{still_unanswered, answers}
use Rattle.run_laws.specs.Apart.{AreApart, AreAllApart}
use Rattle.engine_steps.specs.Engines.{EngineOf, waiting, first_of, due_target, target_of, left_unanswered, ClearsSent}

-- whatever is done, the same
either : (b : Bool) (xs ys : List Save) → xs ≡ ys → cond b xs ys ≡ ys
either true xs ys is = is
either false xs ys is = refl

-- of no saves none is answered
none_answered : (command : Command) → still_unanswered command [] ≡ []
none_answered (Release target outcome) = refl
none_answered (Down target verb) = refl
none_answered (Up target verb) = refl
none_answered (Hit target verb) = refl
none_answered (Set target control value) = refl
none_answered (SetGlobal control value) = refl
none_answered (Get target control) = refl
none_answered (GetGlobal control) = refl
none_answered (SaveLoop target name) = refl
none_answered (SaveSession name) = refl
none_answered Quit = refl

pub nothing_left_clears : (en : Entry) (e : EngineOf) → e.sending ≡ [] → ClearsSent en e
nothing_left_clears en e none =
    record {
      kept = subst (λ ss. left_unanswered en e.looper ss ≡ ss) (sym none)
          (either (is_taken en e.looper) (still_unanswered en.command []) []
          (none_answered en.command));
    }

-- entries of other senders than the saver
other_clears : (sender : ℕ) (command : Command) (loops : ℕ) (saves : List Save) → sender < 2 →
    cond (is_sender sender command && is_allowed loops command) (still_unanswered command saves)
    saves ≡ saves
other_clears sender (Release target outcome) loops saves other =
    ap (λ b. cond (b && is_allowed loops (Release target outcome))
    (still_unanswered (Release target outcome) saves) saves) (ne_eqb sender 2 (λ is. omega arith))
other_clears sender (Down target verb) loops saves other = either _ saves saves refl
other_clears sender (Up target verb) loops saves other = either _ saves saves refl
other_clears sender (Hit target verb) loops saves other = either _ saves saves refl
other_clears sender (Set target control value) loops saves other = either _ saves saves refl
other_clears sender (SetGlobal control value) loops saves other = either _ saves saves refl
other_clears sender (Get target control) loops saves other = either _ saves saves refl
other_clears sender (GetGlobal control) loops saves other = either _ saves saves refl
other_clears sender (SaveLoop target name) loops saves other = either _ saves saves refl
other_clears sender (SaveSession name) loops saves other = either _ saves saves refl
other_clears sender Quit loops saves other = either _ saves saves refl

pub commands_clear_nothing : (en : Entry) (e : EngineOf) → en.sender < 2 → ClearsSent en e
commands_clear_nothing en e other =
    record { kept = other_clears en.sender en.command (length e.looper.tracks) e.sending other }

-- a release of one save answers none that is apart from it
pub apart_unanswered : (target other : Target) → AreApart target other →
    answers target other ≡ false
apart_unanswered (One i) (One k) apart = ne_eqb k i (λ is. apart (sym is))
apart_unanswered (One i) All apart = absurd apart
apart_unanswered (One i) Selected apart = absurd apart
apart_unanswered All other apart = absurd apart
apart_unanswered Selected other apart = absurd apart

pub all_stay : (target : Target) (saves : List Save) →
    AllByRecursion (λ (s : Save). AreApart target s.target) saves →
    filter (λ (s : Save). not (answers target s.target)) saves ≡ saves
all_stay target [] all = refl
all_stay target (s ∷ saves) all =
    ap (λ b. cond (not b) (s ∷ filter (λ (x : Save). not (answers target x.target)) saves)
    (filter (λ (x : Save). not (answers target x.target)) saves))
    (apart_unanswered target s.target all.0)
    ∙ ap (λ ss. s ∷ ss) (all_stay target saves all.1)

-- what is apart from all saves is apart from the later ones
apart_behind : (P : Save → Type 0) (xs ys : List Save) → AllByRecursion P (xs ++ ys) →
    AllByRecursion P ys
apart_behind P [] ys all = all
apart_behind P (x ∷ xs) ys all = apart_behind P xs ys all.1

due_stays : (due sending : List Save) (target : Target) (outcome : ℕ) →
    option_map target_of (first_of due) ≡ Some target → AreAllApart (due ++ sending) →
    still_unanswered (Release target outcome) sending ≡ sending
due_stays [] sending target outcome is apart = cc
due_stays (s ∷ due) sending target outcome is apart =
    let same : s.target ≡ target = cc
    in all_stay target sending
    (subst (λ t. AllByRecursion (λ (x : Save). AreApart t x.target) sending) same
    (apart_behind (λ (x : Save). AreApart s.target x.target) due sending apart.0))

pub due_clears : (en : Entry) (e : EngineOf) (target : Target) (outcome : ℕ) →
    due_target e ≡ Some target → en.command ≡ Release target outcome → AreAllApart (waiting e) →
    ClearsSent en e
due_clears en e target outcome due is apart =
    record {
      kept = either (is_taken en e.looper) (still_unanswered en.command e.sending) e.sending
          (ap (λ c. still_unanswered c e.sending) is
          ∙ due_stays e.due e.sending target outcome due apart);
    }
