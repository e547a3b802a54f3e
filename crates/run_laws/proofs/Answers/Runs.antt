-- The replies of a run answer its gets and saves.
use Rattle.std.proofs.Common.{◌≡◌, ℕ, suc, ◌+◌, ◌≤◌, ◌<◌, Bool, true, false, List, [], ◌∷◌, ◌++◌, length, map, Option, Some, None, IfSome, take, count_by, option_map, option_to_list, if◌then◌else◌, nat_le, refl, sym, ap, ◌∙◌, subst, arith}
use Rattle.std.specs.List.{All, Contains, cons_option}
use Rattle.std.proofs.lemmas.List.{map-append}
use Rattle.std.proofs.lemmas.List.Sums.{sum_by-append}
use Rattle.std.proofs.lemmas.List.Elements.{All-head, All-tail, All-cons, All-nil, All-append, filter_map-append, Contains-append_right}
use Rattle.sl_base.specs.Sounds.{Sound}
use Rattle.sl_commands.specs.declared.Entry.{Entry}
use Rattle.sl_commands.specs.declared.Reply.{Reply}
use Rattle.sl_commands.specs.declared.StripSettings.{StripSettings}
use Rattle.sl_commands.specs.Settings.{LooperSettings}
use Rattle.looper_rules.specs.Looper.{Looper}
use Rattle.looper_rules.specs.Entries.{applied, reply}
use Rattle.looper_rules.specs.Frame.{framed}
use Rattle.looper_rules.specs.Run.{first_tracks, start, entered, due, later, begun, run}
use Rattle.run_laws.specs.Questions.{Question, question, questions, answered}
use Rattle.run_laws.specs.Places.{met}
use Rattle.run_laws.proofs.Runs.Cuts.{due-all, later-all, left-all}
use Rattle.looper_laws.proofs.Kept.Askers.{askers_of, framed-same}
use Rattle.run_laws.proofs.Answers.Pending.{one, pending, AllPending}
use Rattle.run_laws.proofs.Runs.Places.{all_right}
use Rattle.run_laws.proofs.Answers.Entries.{applied-count, applied-all}

-- there is one frame of output for each frame of input
pub length-begun_output : (frame : ℕ) (es : List Entry) (xs : List Sound) (l : Looper) →
    length (begun frame es xs l).output ≡ length xs
length-begun_output frame es [] l = refl
length-begun_output frame es (x ∷ xs) l =
    ap suc (length-begun_output (frame + 1) (later frame es) xs
    (framed frame x (entered frame (due frame es) l).looper).looper)

pub length-run_output : (es : List Entry) (input : List Sound) (l : Looper) →
    length (run es input l).output ≡ length input
length-run_output es input l = length-begun_output 0 es input l

-- the entries that are due at a frame, and the later ones behind them, are all
pub due-later : (frame : ℕ) (es : List Entry) → due frame es ++ later frame es ≡ es
due-later frame [] = refl
due-later frame (e ∷ es) = by_test (nat_le e.frame frame) (due-later frame es)
  where
    by_test : (b : Bool) → due frame es ++ later frame es ≡ es →
        (if b then e ∷ due frame es else []) ++ (if b then later frame es else e ∷ es) ≡ e ∷ es
    by_test true rest = ap (λ l. e ∷ l) rest
    by_test false rest = refl

-- how many of these questions pass a test, and of those that these replies answer
abbrev pub asked : (Question → Bool) → List Entry → ℕ
asked test es = count_by test (questions es)

abbrev pub told : (Question → Bool) → List Reply → ℕ
told test rs = count_by test (map answered rs)

module _ (test : Question → Bool) where
  count-append : (xs ys : List Question) →
      count_by test (xs ++ ys) ≡ count_by test xs + count_by test ys
  count-append xs ys = sum_by-append (λ q. if test q then 1 else 0) xs ys

  count-one : (q : Question) → count_by test (q ∷ []) ≡ one test (Some q)
  count-one q = omega arith

  pub asked-append : (xs ys : List Entry) → asked test (xs ++ ys) ≡ asked test xs + asked test ys
  asked-append xs ys =
      ap (count_by test) (filter_map-append question xs ys)
      ∙ count-append (questions xs) (questions ys)

  pub asked-cons : (e : Entry) (es : List Entry) →
      asked test (e ∷ es) ≡ one test (question e) + asked test es
  asked-cons e es = by_question (question e)
    where
      by_question : (o : Option Question) →
          count_by test (cons_option o (questions es)) ≡ one test o + asked test es
      by_question None = omega arith
      by_question (Some q) =
          count-append (q ∷ []) (questions es) ∙ ap (λ n. n + asked test es) (count-one q)

  pub told-append : (xs ys : List Reply) → told test (xs ++ ys) ≡ told test xs + told test ys
  told-append xs ys =
      ap (count_by test) (map-append answered xs ys)
      ∙ count-append (map answered xs) (map answered ys)

  pub told-option : (o : Option Reply) →
      told test (option_to_list o) ≡ one test (option_map answered o)
  told-option None = refl
  told-option (Some r) = count-one (answered r)

  -- the saves of this looper that run
  abbrev pub running_of : Looper → ℕ
  running_of l = pending test (askers_of l.tracks)

  entered-count : (frame : ℕ) (es : List Entry) (l : Looper) →
      told test (entered frame es l).replies + running_of (entered frame es l).looper ≤ running_of l
      + asked test es
  entered-count frame [] l = omega arith
  entered-count frame (e ∷ es) l =
      let now = applied frame e l in
      let both = told-append (option_to_list (reply e l)) (entered frame es now).replies in
      let first = told-option (reply e l) in
      let here = applied-count test frame e l in
      let rest = entered-count frame es now in
      let split = asked-cons e es in
      omega arith

  begun-count : (frame : ℕ) (es : List Entry) (xs : List Sound) (l : Looper) →
      told test (begun frame es xs l).replies + running_of (begun frame es xs l).looper
      + asked test (begun frame es xs l).left ≤ running_of l + asked test es
  begun-count frame es [] l = omega arith
  begun-count frame es (x ∷ xs) l =
      let before = entered frame (due frame es) l in
      let now = framed frame x before.looper in
      let next = begun (frame + 1) (later frame es) xs now.looper in
      let both = told-append before.replies next.replies in
      let here = entered-count frame (due frame es) l in
      let same = ap (pending test) (framed-same frame x before.looper) in
      let rest = begun-count (frame + 1) (later frame es) xs now.looper in
      let split = sym (asked-append (due frame es) (later frame es))
      ∙ ap (asked test) (due-later frame es) in
      omega arith

  pub run-count : (es : List Entry) (input : List Sound) (l : Looper) →
      told test (run es input l).replies ≤ running_of l + asked test es
  run-count es input l =
      let first = begun 0 es input l in
      let last = entered (length input) first.left first.looper in
      let both = told-append first.replies last.replies in
      let here = begun-count 0 es input l in
      let rest = entered-count (length input) first.left first.looper in
      omega arith

  pub first-pending : (strips : List StripSettings) (lists : List (List Sound)) →
      pending test (askers_of (first_tracks strips lists)) ≡ 0
  first-pending [] lists = refl
  first-pending (s ∷ ss) [] = let rest = first-pending ss [] in omega arith
  first-pending (s ∷ ss) (list ∷ lists) = let rest = first-pending ss lists in omega arith

  -- in a run from its start no more questions are answered than were asked
  pub start-count : (settings : LooperSettings) (chunks : ℕ) (initial : List (List Sound))
      (es : List Entry) (input : List Sound) →
      told test (run es input (start settings chunks initial)).replies ≤ asked test es
  start-count settings chunks initial es input =
      let all = run-count es input (start settings chunks initial) in
      let none = first-pending settings.strips initial in
      omega arith

module _ (P : Question → Type 0) where
  abbrev AllAsked : List Entry → Type 0
  AllAsked es = All (λ e. IfSome (question e) P) es

  abbrev AllTold : List Reply → Type 0
  AllTold rs = All (λ r. P (answered r)) rs

  abbrev AllRunning : Looper → Type 0
  AllRunning l = AllPending P (askers_of l.tracks)

  told-all_option : (o : Option Reply) → IfSome (option_map answered o) P →
      AllTold (option_to_list o)
  told-all_option None p = All-nil (λ r. P (answered r))
  told-all_option (Some r) p = All-cons (λ r. P (answered r)) r [] p (All-nil (λ r. P (answered r)))

  entered-all : (frame : ℕ) (es : List Entry) (l : Looper) → AllAsked es → AllRunning l →
      AllTold (entered frame es l).replies × AllRunning (entered frame es l).looper
  entered-all frame [] l all now = (All-nil (λ r. P (answered r)), now)
  entered-all frame (e ∷ es) l all now =
      let here = applied-all P frame e l (All-head (λ e. IfSome (question e) P) e es all) now in
      let rest = entered-all frame es (applied frame e l)
      (All-tail (λ e. IfSome (question e) P) e es all) here.1 in (
        All-append (λ r. P (answered r)) (option_to_list (reply e l)) _
            (told-all_option (reply e l) here.0) rest.0,
        rest.1,
      )

  begun-all : (frame : ℕ) (es : List Entry) (xs : List Sound) (l : Looper) → AllAsked es →
      AllRunning l →
      AllTold (begun frame es xs l).replies × AllRunning (begun frame es xs l).looper
  begun-all frame es [] l all now = (All-nil (λ r. P (answered r)), now)
  begun-all frame es (x ∷ xs) l all now =
      let before = entered frame (due frame es) l in
      let here = entered-all frame (due frame es) l
      (due-all (λ e. IfSome (question e) P) frame es all) now in
      let after = subst (AllPending P) (sym (framed-same frame x before.looper)) here.1 in
      let rest = begun-all (frame + 1) (later frame es) xs (framed frame x before.looper).looper
      (later-all (λ e. IfSome (question e) P) frame es all) after in
      (All-append (λ r. P (answered r)) before.replies _ here.0 rest.0, rest.1)

  pub run-all : (es : List Entry) (input : List Sound) (l : Looper) → AllAsked es → AllRunning l →
      AllTold (run es input l).replies × AllRunning (run es input l).looper
  run-all es input l all now =
      let first = begun 0 es input l in
      let here = begun-all 0 es input l all now in
      let rest = entered-all (length input) first.left first.looper
      (left-all (λ e. IfSome (question e) P) 0 es input l all) here.1 in
      (All-append (λ r. P (answered r)) first.replies _ here.0 rest.0, rest.1)

  first-all : (strips : List StripSettings) (lists : List (List Sound)) →
      AllPending P (askers_of (first_tracks strips lists))
  first-all [] lists = tt
  first-all (s ∷ ss) [] = (tt, tt, first-all ss [])
  first-all (s ∷ ss) (list ∷ lists) = (tt, tt, first-all ss lists)

  pub start-all : (settings : LooperSettings) (chunks : ℕ) (initial : List (List Sound)) →
      AllRunning (start settings chunks initial)
  start-all settings chunks initial = first-all settings.strips initial

-- each entry's question is among those of all
asked_among : (es : List Entry) (all : List Question) →
    ((q : Question) → Contains (questions es) q → Contains all q) →
    All (λ e. IfSome (question e) (Contains all)) es
asked_among [] all among = All-nil (λ e. IfSome (question e) (Contains all))
asked_among (e ∷ es) all among =
    let here = first (question e) among in
    All-cons (λ e. IfSome (question e) (Contains all)) e es here.0 (asked_among es all here.1)
  where
    first : (o : Option Question) →
        ((q : Question) → Contains (cons_option o (questions es)) q → Contains all q) →
        IfSome o (Contains all) × ((q : Question) → Contains (questions es) q → Contains all q)
    first None among = (tt, among)
    first (Some q) among =
        let inside : 0 < length (q ∷ questions es) = omega arith in (
          among q (0, inside, refl),
          λ p at. among p (Contains-append_right (q ∷ []) (questions es) p at),
        )

pub asked_of_all : (es : List Entry) → All (λ e. IfSome (question e) (Contains (questions es))) es
asked_of_all es = asked_among es (questions es) (λ q at. at)

-- each reply of a run from its start answers one of its gets and saves
pub start-asked : (settings : LooperSettings) (chunks : ℕ) (initial : List (List Sound))
    (es : List Entry) (input : List Sound) →
    All (λ r. Contains (questions es) (answered r))
    (run es input (start settings chunks initial)).replies
start-asked settings chunks initial es input =
    let P = Contains (questions es) in
    (run-all P es input (start settings chunks initial) (asked_of_all es)
    (start-all P settings chunks initial)).0

-- what holds of all of two lists holds of all of the first
pub all_left : {A : Type 0} (P : A → Type 0) (xs ys : List A) → All P (xs ++ ys) → All P xs
all_left P [] ys all = All-nil P
all_left P (x ∷ xs) ys all =
    All-cons P x xs (All-head P x (xs ++ ys) all) (all_left P xs ys (All-tail P x (xs ++ ys) all))

some_if : {A : Type 0} (P : A → Type 0) (o : Option A) (a : A) → o ≡ Some a → IfSome o P → P a
some_if P o a is all = subst (λ o. IfSome o P) is all

-- a reply that an entry gives answers a get or a save before it, or this entry
pub start-asked_before : (settings : LooperSettings) (chunks : ℕ) (initial : List (List Sound))
    (before : List Entry) (e : Entry) (input : List Sound) (r : Reply) →
    reply e (met before e input (start settings chunks initial)) ≡ Some r →
    Contains (questions (before ++ e ∷ [])) (answered r)
start-asked_before settings chunks initial before e input r is =
    let l = start settings chunks initial in
    let P = Contains (questions (before ++ e ∷ [])) in
    let all = asked_of_all (before ++ e ∷ []) in
    let at = run-all P before (take e.frame input) l
    (all_left (λ e. IfSome (question e) P) before (e ∷ []) all)
    (start-all P settings chunks initial) in
    let own = All-head (λ e. IfSome (question e) P) e []
    (all_right (λ e. IfSome (question e) P) before (e ∷ []) all) in
    some_if P (option_map answered (reply e (met before e input l))) (answered r)
    (ap (option_map answered) is) (applied-all P 0 e (met before e input l) own at.1).0
