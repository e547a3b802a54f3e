-- Each valid get of a run is answered, in the order of the gets.
use Rattle.std.proofs.Common.{◌≡◌, ℕ, zero, suc, ◌+◌, ◌<◌, ℤ, pos, negsuc, Bool, true, false, List, [], ◌∷◌, ◌++◌, length, map, Option, Some, None, slice_get, filter, option_map, option_to_list, if◌then◌else◌, refl, sym, ap, ap₂, ◌∙◌, subst, append_assoc, ltb-true, arith}
use Rattle.std.specs.List.{cons_option}
use Rattle.std.proofs.lemmas.Bool.{and_parts}
use Rattle.std.proofs.lemmas.List.{map-append}
use Rattle.std.proofs.lemmas.List.Elements.{filter-append, filter_map-append}
use Rattle.sl_base.specs.Sounds.{Sound}
use Rattle.sl_commands.specs.declared.What.{What}
use Rattle.sl_commands.specs.declared.What.TheVariants.{Value, Save as OfLoop, Session as OfSession}
use Rattle.sl_commands.specs.declared.Target.{Target}
use Rattle.sl_commands.specs.declared.Target.TheVariants.{One, All, Selected}
use Rattle.sl_commands.specs.declared.Command.{Command}
use Rattle.sl_commands.specs.declared.Command.TheVariants.{Down, Up, Hit, Set, SetGlobal, Get, GetGlobal, SaveLoop, SaveSession, Release, Quit}
use Rattle.sl_commands.specs.declared.Entry.{Entry}
use Rattle.sl_commands.specs.declared.Reply.{Reply}
use Rattle.sl_commands.specs.Controls.{is_of_loop}
use Rattle.sl_commands.specs.Commands.{is_single_target, is_allowed}
use Rattle.sl_commands.specs.Entries.{is_sender, is_valid}
use Rattle.looper_rules.specs.Looper.{Asker, Track, Looper, free_of}
use Rattle.looper_rules.specs.Saves.{session_refusal, running_session}
use Rattle.looper_rules.specs.Entries.{is_taken, applied, reply, reply_of, reply_to, release_reply, outcome_for, ended_asker, refusal_at, track_of, reply_index, value_on}
use Rattle.looper_rules.specs.Frame.{framed}
use Rattle.looper_rules.specs.Run.{entered, due, later, begun, run}
use Rattle.run_laws.specs.Questions.{Question, question, questions, question_for, asked_for, answered, is_value, is_get, valid_ones}
use Rattle.looper_laws.specs.Selecting.{SelectsALoop}
use Rattle.run_laws.proofs.Answers.Runs.{due-later}
use Rattle.run_laws.proofs.Runs.Sizes.{HasLoops, applied-has_loops, framed-has_loops, entered-has_loops, begun-has_loops}

-- the gets that these replies answer, and those among the valid ones of these entries
abbrev told_gets : List Reply → List Question
told_gets rs = filter is_get (map answered rs)

abbrev asked_gets : ℕ → List Entry → List Question
asked_gets loops es = filter is_get (questions (valid_ones loops es))

told_gets-append : (xs ys : List Reply) → told_gets (xs ++ ys) ≡ told_gets xs ++ told_gets ys
told_gets-append xs ys =
    ap (filter is_get) (map-append answered xs ys)
    ∙ filter-append is_get (map answered xs) (map answered ys)

asked_gets-append : (loops : ℕ) (xs ys : List Entry) →
    asked_gets loops (xs ++ ys) ≡ asked_gets loops xs ++ asked_gets loops ys
asked_gets-append loops xs ys =
    ap (λ es. filter is_get (questions es)) (filter-append (is_valid loops) xs ys)
    ∙ ap (filter is_get) (filter_map-append question (valid_ones loops xs) (valid_ones loops ys))
    ∙ filter-append is_get (questions (valid_ones loops xs)) (questions (valid_ones loops ys))

-- what answers a save is no get
no_get_refused : (e : Entry) (index : ℤ) (what : What) (o : Option ℕ) → is_value what ≡ false →
    told_gets (option_to_list (option_map (λ n. reply_to e index what (pos n)) o)) ≡ []
no_get_refused e index what None save = refl
no_get_refused e index what (Some n) save = rw save refl

no_get_released : (index : ℤ) (what : What) (outcome : ℕ) (o : Option Asker) →
    is_value what ≡ false →
    told_gets (option_to_list (option_map (outcome_for index what outcome) o)) ≡ []
no_get_released index what outcome None save = refl
no_get_released index what outcome (Some asker) save = rw save refl

no_get_release : (target : Target) (outcome : ℕ) (l : Looper) →
    told_gets (option_to_list (release_reply target outcome l)) ≡ []
no_get_release (One k) outcome l = no_get_released (pos k) OfLoop outcome (ended_asker k l) refl
no_get_release All outcome l =
    no_get_released (negsuc 1) OfSession outcome (running_session l.tracks) refl
no_get_release Selected outcome l = refl

-- a valid target of one loop names one of the tracks
track_there : (k : ℕ) (ts : List Track) → k < length ts → (t : Track) × (slice_get ts k ≡ Some t)
track_there k [] inside = absurd (omega arith)
track_there zero (t ∷ ts) inside = (t, refl)
track_there (suc k) (t ∷ ts) inside = track_there k ts (omega arith)

pub target_there : (n : ℕ) (target : Target) (l : Looper) → HasLoops n l →
    is_single_target n target ≡ true →
    (t : Track) × (track_of target l ≡ Some t)
target_there n (One k) l has allowed =
    track_there k l.tracks (subst (λ m. k < m) (sym has.loops) (ltb-true k n allowed))
target_there n All l has allowed = absurd (cc)
target_there n Selected l has allowed =
    track_there l.globals.selected_loop_num l.tracks
    (subst (λ m. l.globals.selected_loop_num < m) (sym has.loops) has.selects)

-- a valid entry's reply is to a get just where the entry is one
gets-reply_of : (c : Command) (n : ℕ) (e : Entry) (l : Looper) → HasLoops n l →
    is_allowed n c ≡ true →
    told_gets (option_to_list (reply_of c e l)) ≡ filter is_get
    (cons_option (option_map (question_for e) (asked_for c)) [])
gets-reply_of (Get target control) n e l has allowed =
    let there = target_there n target l has
    (and_parts (is_single_target n target) (is_of_loop control) allowed).0 in
    ap (λ o. told_gets
    (option_to_list (option_map
    (λ t. reply_to e (reply_index target l) (Value control)
    (value_on control (free_of l.chunks l.tracks) t)) o))) there.1
gets-reply_of (GetGlobal control) n e l has allowed = refl
gets-reply_of (SaveLoop target name) n e l has allowed =
    no_get_refused e (reply_index target l) OfLoop (refusal_at target l) refl
gets-reply_of (SaveSession name) n e l has allowed =
    no_get_refused e (negsuc 1) OfSession (session_refusal l.tracks) refl
gets-reply_of (Release target outcome) n e l has allowed = no_get_release target outcome l
gets-reply_of (Down target verb) n e l has allowed = refl
gets-reply_of (Up target verb) n e l has allowed = refl
gets-reply_of (Hit target verb) n e l has allowed = refl
gets-reply_of (Set target control value) n e l has allowed = refl
gets-reply_of (SetGlobal control value) n e l has allowed = refl
gets-reply_of Quit n e l has allowed = refl

gets-reply : (n : ℕ) (e : Entry) (l : Looper) → HasLoops n l →
    told_gets (option_to_list (reply e l)) ≡ asked_gets n (e ∷ [])
gets-reply n e l has = by_taken (is_taken e l) refl
  where
    by_taken : (b : Bool) → is_valid (length l.tracks) e ≡ b →
        told_gets (option_to_list (if b then reply_of e.command e l else None)) ≡ asked_gets n
        (e ∷ [])
    by_taken true valid =
        let here = subst (λ k. is_valid k e ≡ true) has.loops valid in
        rw here (gets-reply_of e.command n e l has
        (and_parts (is_sender e.sender e.command) (is_allowed n e.command) here).1)
    by_taken false valid =
        let here = subst (λ k. is_valid k e ≡ false) has.loops valid in
        rw here refl

entered-gets : (n frame : ℕ) (es : List Entry) (l : Looper) → HasLoops n l →
    told_gets (entered frame es l).replies ≡ asked_gets n es
entered-gets n frame [] l has = refl
entered-gets n frame (e ∷ es) l has =
    told_gets-append (option_to_list (reply e l)) (entered frame es (applied frame e l)).replies
    ∙ ap₂ (λ xs ys. xs ++ ys) (gets-reply n e l has)
    (entered-gets n frame es (applied frame e l) (applied-has_loops n frame e l has))
    ∙ sym (asked_gets-append n (e ∷ []) es)

begun-gets : (n frame : ℕ) (es : List Entry) (xs : List Sound) (l : Looper) → HasLoops n l →
    told_gets (begun frame es xs l).replies ++ asked_gets n (begun frame es xs l).left ≡ asked_gets
    n es
begun-gets n frame es [] l has = refl
begun-gets n frame es (x ∷ xs) l has =
    let before = entered frame (due frame es) l in
    let now = framed frame x before.looper in
    let next = begun (frame + 1) (later frame es) xs now.looper in
    let then_has = framed-has_loops n frame x before.looper
    (entered-has_loops n frame (due frame es) l has) in
    ap (λ gets. gets ++ asked_gets n next.left) (told_gets-append before.replies next.replies)
    ∙ append_assoc (told_gets before.replies) (told_gets next.replies) (asked_gets n next.left)
    ∙ ap₂ (λ xs ys. xs ++ ys) (entered-gets n frame (due frame es) l has)
    (begun-gets n (frame + 1) (later frame es) xs now.looper then_has)
    ∙ sym (asked_gets-append n (due frame es) (later frame es))
    ∙ ap (asked_gets n) (due-later frame es)

-- the gets that a run answers are its valid gets, in their order
pub run-gets : (es : List Entry) (input : List Sound) (l : Looper) → SelectsALoop l →
    filter is_get (map answered (run es input l).replies) ≡ filter is_get
    (questions (valid_ones (length l.tracks) es))
run-gets es input l selects =
    let n = length l.tracks in
    let has : HasLoops n l = record { loops = refl; selects = selects } in
    let first = begun 0 es input l in
    let last = entered (length input) first.left first.looper in
    told_gets-append first.replies last.replies
    ∙ ap (λ gets. told_gets first.replies ++ gets)
    (entered-gets n (length input) first.left first.looper (begun-has_loops n 0 es input l has))
    ∙ begun-gets n 0 es input l has
