-- No question is lost: what was asked is answered, or belongs to a save that runs.
use Rattle.std.proofs.Common.{◌≡◌, ℕ, zero, suc, ◌+◌, ◌≤◌, ◌<◌, ℤ, pos, negsuc, Bool, true, false, ◌||◌, ◌&&◌, List, [], ◌∷◌, ◌++◌, length, map, Option, Some, None, IfSome, slice_get, filter, count_by, option_map, option_to_list, if◌then◌else◌, nat_le, refl, sym, ap, ◌∙◌, subst, le_refl, zero-le, leb-true, eq-eqb, IsTrue, arith}
use Rattle.std.specs.List.{AllByRecursion, Contains}
use Rattle.std.specs.Option.{option_and_then}
use Rattle.std.proofs.lemmas.Bool.{and_parts}
use Rattle.std.proofs.lemmas.Option.{slice_get-map}
use Rattle.std.proofs.lemmas.List.Elements.{filter-append}
use Rattle.sl_base.specs.Sounds.{Sound}
use Rattle.sl_commands.specs.declared.What.{What}
use Rattle.sl_commands.specs.declared.What.TheVariants.{Value, Save as OfLoop, Session as OfSession}
use Rattle.sl_commands.specs.declared.Target.{Target}
use Rattle.sl_commands.specs.declared.Target.TheVariants.{One, All, Selected}
use Rattle.sl_commands.specs.declared.Command.{Command}
use Rattle.sl_commands.specs.declared.Command.TheVariants.{Down, Up, Hit, Set, SetGlobal, Get, GetGlobal, SaveLoop, SaveSession, Release, Quit}
use Rattle.sl_commands.specs.declared.Entry.{Entry}
use Rattle.sl_base.specs.Names.{is_name}
use Rattle.sl_commands.specs.Controls.{is_of_loop}
use Rattle.sl_commands.specs.Settings.{LooperSettings}
use Rattle.sl_commands.specs.Commands.{is_single_target, is_allowed}
use Rattle.sl_commands.specs.Entries.{is_sender, is_valid, are_stamped}
use Rattle.looper_rules.specs.Presses.{given, pressed, released}
use Rattle.looper_rules.specs.Looper.{Asker, Track, Looper, free_of, index_of}
use Rattle.looper_rules.specs.Pins.{SessionIsWhole}
use Rattle.looper_rules.specs.Reached.{KeepsLooper, IsBeginning}
use Rattle.looper_rules.specs.Frame.{framed}
use Rattle.looper_rules.specs.Run.{entered, due, later, begun, start, run}
use Rattle.looper_rules.specs.States.{IsTrack}
use Rattle.looper_rules.specs.Unanswered.{unanswered, hold_on, holds_of, IsOwned, HoldPins}
use Rattle.looper_rules.specs.Saves.{any_pinned, save_refusal, is_pinned, session_refusal, running_session, loop_asker, session_asker, asker_or}
use Rattle.looper_rules.specs.Entries.{is_taken, sets, applied, performed, asker_of, refusal_at, saves_loop, saves_session, releases, reply, reply_of, reply_to, release_reply, outcome_for, ended_asker, track_of, reply_index, value_on}
use Rattle.run_laws.specs.Questions.{Question, question, question_for, asked_for, answered, is_of, valid_ones}
use Rattle.looper_laws.proofs.Kept.Askers.{asker_on, askers_of, changed_at, at_target-same, at_index-pinned, map-pinned, without, without_loop, without_session, at_index-released, map-released, ended_at, ended_asker-at, running, running-tracks}
use Rattle.run_laws.proofs.Answers.Pending.{question_as, asked_as, of_loop, of_session, flag, passes, one, loops, session, pending}
use Rattle.run_laws.proofs.Answers.Entries.{answered-outcome}
use Rattle.run_laws.proofs.Answers.Gets.{target_there}
use Rattle.run_laws.proofs.Runs.Sizes.{HasLoops}
use Rattle.run_laws.proofs.Saves.Owners.{track_at, unasked, none_there, first_unpinned}
use Rattle.run_laws.proofs.Runs.Sizes.{applied-has_loops, framed-has_loops, entered-has_loops, begun-has_loops, start-selects, length-first_tracks}
use Rattle.run_laws.proofs.Answers.Entries.{performed-count}
use Rattle.run_laws.proofs.Answers.Runs.{asked, told, asked-cons, asked-append, told-append, told-option, running_of, due-later, first-pending}
use Rattle.run_laws.proofs.Answers.Once.{start-once}
use Rattle.looper_laws.proofs.Kept.Askers.{framed-same}
use Rattle.looper_laws.proofs.Kept.Runs.{entry_keeps, entered_keeps, begun_keeps, frame_keeps}
use Rattle.looper_laws.proofs.Kept.Starts.{begins as starts_kept}

flag-or_more : (p q r s : Bool) → flag p ≤ flag q → flag r ≤ flag s → flag (p || r) ≤ flag (q || s)
flag-or_more true true r s h k = le_refl 1
flag-or_more true false r s h k = absurd (omega arith)
flag-or_more false true r true h k = k
flag-or_more false true true false h k = le_refl 1
flag-or_more false true false false h k = zero-le
flag-or_more false false r s h k = k

flag-first : (p q : Bool) → flag p ≤ flag (p || q)
flag-first true q = le_refl 1
flag-first false q = zero-le

flag-both : (p q r : Bool) → flag p ≤ flag r → flag q ≤ flag r → flag (p || q) ≤ flag r
flag-both true q r h k = h
flag-both false q r h k = k

-- nobody asked for a save
abbrev pub AreNone : List (Option Asker) → Type 0
AreNone askers = AllByRecursion (λ a. a ≡ None) askers

-- all tracks have this asker
abbrev AreAll : Asker → List (Option Asker) → Type 0
AreAll asker askers = AllByRecursion (λ a. a ≡ Some asker) askers

module _ (test : Question → Bool) where
  -- a loop's save keeps its question where nobody had asked there
  loops-kept : (sender seq k : ℕ) (askers : List (Option Asker)) →
      slice_get askers k ≡ Some None →
      loops test askers + one test (Some (question_as OfLoop (of_loop sender seq)))
      ≤ loops test (changed_at k (λ a. Some (of_loop sender seq)) askers)
  loops-kept sender seq k [] there = absurd (cc)
  loops-kept sender seq zero (None ∷ rest) there = omega arith
  loops-kept sender seq zero (Some a ∷ rest) there = absurd (cc)
  loops-kept sender seq (suc k) (a ∷ rest) there =
      let more = loops-kept sender seq k rest there in omega arith

  session-kept : (sender seq k : ℕ) (askers : List (Option Asker)) →
      slice_get askers k ≡ Some None →
      flag (session test askers)
      ≤ flag (session test (changed_at k (λ a. Some (of_loop sender seq)) askers))
  session-kept sender seq k [] there = absurd (cc)
  session-kept sender seq zero (None ∷ rest) there = le_refl _
  session-kept sender seq zero (Some a ∷ rest) there = absurd (cc)
  session-kept sender seq (suc k) (a ∷ rest) there =
      let p = passes test (asked_as OfSession (session_asker a)) in
      flag-or_more p p (session test rest)
      (session test (changed_at k (λ a. Some (of_loop sender seq)) rest)) (le_refl _)
      (session-kept sender seq k rest there)

  pub pending-kept : (sender seq k : ℕ) (askers : List (Option Asker)) →
      slice_get askers k ≡ Some None →
      pending test askers + one test (Some (question_as OfLoop (of_loop sender seq)))
      ≤ pending test (changed_at k (λ a. Some (of_loop sender seq)) askers)
  pending-kept sender seq k askers there =
      let a = loops-kept sender seq k askers there in
      let b = session-kept sender seq k askers there in
      omega arith

  -- where nobody asked, no save runs
  loops-none : (askers : List (Option Asker)) → AreNone askers → loops test askers ≡ 0
  loops-none [] all = refl
  loops-none (None ∷ rest) all = let more = loops-none rest all.1 in omega arith
  loops-none (Some a ∷ rest) all = absurd (let wrong = all.0 in cc)

  session-none : (askers : List (Option Asker)) → AreNone askers → session test askers ≡ false
  session-none [] all = refl
  session-none (None ∷ rest) all = session-none rest all.1
  session-none (Some a ∷ rest) all = absurd (let wrong = all.0 in cc)

  pub pending-none : (askers : List (Option Asker)) → AreNone askers → pending test askers ≡ 0
  pending-none askers all =
      let a = loops-none askers all in
      let b = ap flag (session-none askers all) in
      omega arith

  -- a session's save keeps its question where nobody had asked
  pub pending-kept_all : (sender seq : ℕ) (askers : List (Option Asker)) → 1 ≤ length askers →
      AreNone askers →
      pending test askers + one test (Some (question_as OfSession (of_session sender seq)))
      ≤ pending test (map (λ a. Some (of_session sender seq)) askers)
  pending-kept_all sender seq [] some all = absurd (omega arith)
  pending-kept_all sender seq (a ∷ rest) some all =
      let none = pending-none (a ∷ rest) all in
      let first = flag-first (test (question_as OfSession (of_session sender seq)))
      (session test (map (λ a. Some (of_session sender seq)) rest)) in
      omega arith

  -- the release of a loop's save takes no other question away
  one-left : (a : Option Asker) →
      one test (asked_as OfLoop (loop_asker a))
      ≤ one test (asked_as OfLoop (loop_asker a))
      + one test (asked_as OfLoop (loop_asker (without_loop a)))
  one-left a = omega arith

  passes-left : (a : Option Asker) →
      flag (passes test (asked_as OfSession (session_asker a)))
      ≤ flag (passes test (asked_as OfSession (session_asker (without_loop a))))
  passes-left None = zero-le
  passes-left (Some asker) = by_kind asker.of_session refl
    where
      by_kind : (b : Bool) → asker.of_session ≡ b →
          flag (passes test (asked_as OfSession (session_asker (Some asker))))
          ≤ flag (passes test (asked_as OfSession (session_asker (without_loop (Some asker)))))
      by_kind true is = rw is (le_refl _)
      by_kind false is = rw is zero-le

  loops-left : (k : ℕ) (askers : List (Option Asker)) →
      loops test askers ≤ one test (asked_as OfLoop (ended_at k askers))
      + loops test (changed_at k without_loop askers)
  loops-left k [] = zero-le
  loops-left zero (a ∷ rest) = let here = one-left a in omega arith
  loops-left (suc k) (a ∷ rest) = let more = loops-left k rest in omega arith

  session-left : (k : ℕ) (askers : List (Option Asker)) →
      flag (session test askers) ≤ flag (session test (changed_at k without_loop askers))
  session-left k [] = le_refl 0
  session-left zero (a ∷ rest) =
      flag-or_more _ _ (session test rest) (session test rest) (passes-left a) (le_refl _)
  session-left (suc k) (a ∷ rest) =
      let p = passes test (asked_as OfSession (session_asker a)) in
      flag-or_more p p (session test rest) (session test (changed_at k without_loop rest))
      (le_refl _) (session-left k rest)

  pub pending-left : (k : ℕ) (askers : List (Option Asker)) →
      pending test askers ≤ one test (asked_as OfLoop (ended_at k askers))
      + pending test (changed_at k without_loop askers)
  pending-left k askers = let a = loops-left k askers in
      let b = session-left k askers in omega arith

  -- nor does that of a session's save
  one-left_session : (a : Option Asker) →
      one test (asked_as OfLoop (loop_asker a))
      ≤ one test (asked_as OfLoop (loop_asker (without_session a)))
  one-left_session None = zero-le
  one-left_session (Some asker) = by_kind asker.of_session refl
    where
      by_kind : (b : Bool) → asker.of_session ≡ b →
          one test (asked_as OfLoop (loop_asker (Some asker)))
          ≤ one test (asked_as OfLoop (loop_asker (without_session (Some asker))))
      by_kind true is = rw is zero-le
      by_kind false is = rw is (le_refl _)

  loops-left_all : (askers : List (Option Asker)) →
      loops test askers ≤ loops test (map without_session askers)
  loops-left_all [] = le_refl 0
  loops-left_all (a ∷ rest) =
      let here = one-left_session a in let more = loops-left_all rest in omega arith

  -- where one asked for all, the questions are all that one
  session-one : (asker : Asker) (askers : List (Option Asker)) → AreAll asker askers →
      flag (session test askers) ≤ one test (Some (question_as OfSession asker))
  session-one asker [] all = zero-le
  session-one asker (a ∷ rest) all =
      flag-both (passes test (asked_as OfSession (session_asker a))) (session test rest)
      (test (question_as OfSession asker))
      (subst (λ o. flag (passes test (asked_as OfSession (session_asker o)))
      ≤ one test (Some (question_as OfSession asker))) (sym all.0) (by_kind asker.of_session refl))
      (session-one asker rest all.1)
    where
      by_kind : (b : Bool) → asker.of_session ≡ b →
          flag (passes test (asked_as OfSession (session_asker (Some asker))))
          ≤ one test (Some (question_as OfSession asker))
      by_kind true is = rw is (le_refl _)
      by_kind false is = rw is zero-le

  no_asker : (o rest : Option Asker) → asker_or o rest ≡ None → (o ≡ None) × (rest ≡ None)
  no_asker None rest none = (refl, none)
  no_asker (Some a) rest none = absurd (cc)

  session-idle : (askers : List (Option Asker)) → running askers ≡ None →
      session test askers ≡ false
  session-idle [] none = refl
  session-idle (a ∷ rest) none =
      let both = no_asker (session_asker a) (running rest) none in
      rw both.0 (session-idle rest both.1)

  session-answered : (askers : List (Option Asker)) (o : Option Asker) → running askers ≡ o →
      IfSome o (λ asker. AreAll asker askers) →
      flag (session test askers) ≤ one test (asked_as OfSession o)
  session-answered askers None is all =
      let none = ap flag (session-idle askers is) in omega arith
  session-answered askers (Some asker) is all = session-one asker askers all

  pub pending-left_all : (askers : List (Option Asker)) →
      IfSome (running askers) (λ asker. AreAll asker askers) →
      pending test askers ≤ one test (asked_as OfSession (running askers))
      + pending test (map without_session askers)
  pending-left_all askers whole =
      let a = loops-left_all askers in
      let b = session-answered askers (running askers) refl whole in
      omega arith

module _ (test : Question → Bool) where
  -- a get of a track that is there is answered
  got-kept : (e : Entry) (index : ℤ) (what : What) (value : Track → ℤ) (t : Track)
      (o : Option Track) → o ≡ Some t →
      one test (Some (question_for e what)) ≤ one test
      (option_map answered (option_map (λ u. reply_to e index what (value u)) o))
  got-kept e index what value t o there = rw there (le_refl _)

  loop-kept : (refusal : Option ℕ) (e : Entry) (index : ℤ) (k : ℕ) (l : Looper) →
      (refusal ≡ None → slice_get (askers_of l.tracks) k ≡ Some None) →
      pending test (askers_of l.tracks) + one test (Some (question_for e OfLoop))
      ≤ one test (option_map answered (option_map (λ n. reply_to e index OfLoop (pos n)) refusal))
      + pending test (askers_of (saves_loop refusal k (asker_of e false) l).tracks)
  loop-kept None e index k l free =
      let same = ap (pending test) (at_index-pinned k (of_loop e.sender e.seq) 0 l.tracks) in
      let put = pending-kept test e.sender e.seq k (askers_of l.tracks) (free refl) in
      omega arith
  loop-kept (Some n) e index k l free = omega arith

  session_save-kept : (refusal : Option ℕ) (e : Entry) (index : ℤ) (l : Looper) →
      1 ≤ length (askers_of l.tracks) → (refusal ≡ None → AreNone (askers_of l.tracks)) →
      pending test (askers_of l.tracks) + one test (Some (question_for e OfSession))
      ≤ one test (option_map answered
      (option_map (λ n. reply_to e index OfSession (pos n)) refusal))
      + pending test (askers_of (saves_session refusal (asker_of e true) l).tracks)
  session_save-kept None e index l some free =
      let same = ap (pending test) (map-pinned (of_session e.sender e.seq) l.tracks) in
      let put = pending-kept_all test e.sender e.seq (askers_of l.tracks) some (free refl) in
      omega arith
  session_save-kept (Some n) e index l some free = omega arith

  release-kept : (target : Target) (outcome : ℕ) (l : Looper) →
      IfSome (running (askers_of l.tracks)) (λ asker. AreAll asker (askers_of l.tracks)) →
      pending test (askers_of l.tracks)
      ≤ one test (option_map answered (release_reply target outcome l))
      + pending test (askers_of (releases target l).tracks)
  release-kept (One k) outcome l whole =
      let told = ap (one test) (answered-outcome (pos k) OfLoop outcome (ended_asker k l)
      ∙ ap (asked_as OfLoop) (ended_asker-at k l)) in
      let same = ap (pending test) (at_index-released k 0 l.tracks) in
      let less = pending-left test k (askers_of l.tracks) in
      omega arith
  release-kept All outcome l whole =
      let told = ap (one test)
      (answered-outcome (negsuc 1) OfSession outcome (running_session l.tracks)
      ∙ ap (asked_as OfSession) (running-tracks l.tracks)) in
      let same = ap (pending test) (map-released l.tracks) in
      let less = pending-left_all test (askers_of l.tracks) whole in
      omega arith
  release-kept Selected outcome l whole = omega arith

-- nobody asked on a track that has no pin
none_where_free : (k : ℕ) (t : Track) (ts : List Track) → slice_get ts k ≡ Some t →
    t.asker ≡ None → slice_get (askers_of ts) k ≡ Some None
none_where_free k t ts there none =
    slice_get-map asker_on ts k ∙ ap (option_map asker_on) there ∙ ap (λ a. Some a) none

none_unpinned : (frame : ℕ) (ts : List Track) → AllByRecursion (IsTrack frame) ts →
    any_pinned ts ≡ false → AreNone (askers_of ts)
none_unpinned frame [] tracks none = tt
none_unpinned frame (t ∷ ts) tracks none =
    let here = first_unpinned (is_pinned t.loop) (any_pinned ts) none in (
      none_there t.asker (tracks.0.asker ∙ here.0),
      none_unpinned frame ts tracks.1 here.1,
    )

session_unrefused : (ts : List Track) (any : Bool) → any_pinned ts ≡ any →
    session_refusal ts ≡ None → any_pinned ts ≡ false
session_unrefused ts true is none =
    absurd (let wrong : Some 2 ≡ None = sym (ap refusal_if is) ∙ none in cc)
  where
    refusal_if : Bool → Option ℕ
    refusal_if any = if any then Some 2 else None
session_unrefused ts false is none = is

to_all : (asker : Asker) (ts : List Track) →
    AllByRecursion (λ (t : Track). t.asker ≡ Some asker) ts → AreAll asker (askers_of ts)
to_all asker [] all = tt
to_all asker (t ∷ ts) all = (all.0, to_all asker ts all.1)

all_if : (o : Option Asker) (ts : List Track) →
    IfSome o (λ asker. AllByRecursion (λ (t : Track). t.asker ≡ Some asker) ts) →
    IfSome o (λ asker. AreAll asker (askers_of ts))
all_if None ts h = tt
all_if (Some asker) ts h = to_all asker ts h

whole_askers : (ts : List Track) → SessionIsWhole ts →
    IfSome (running (askers_of ts)) (λ asker. AreAll asker (askers_of ts))
whole_askers ts h = subst (λ o. IfSome o (λ asker. AreAll asker (askers_of ts)))
    (running-tracks ts) (all_if (running_session ts) ts h)

-- the target of a loop's save
single_of : (n : ℕ) (target : Target) (name : List ℕ) →
    is_allowed n (SaveLoop target name) ≡ true → is_single_target n target ≡ true
single_of n target name allowed = (and_parts (is_single_target n target) (is_name name) allowed).0

length-askers : (ts : List Track) → length (askers_of ts) ≡ length ts
length-askers [] = refl
length-askers (t ∷ ts) = ap suc (length-askers ts)

module _ (test : Question → Bool) where
  performed-kept : (c : Command) (n frame : ℕ) (e : Entry) (l : Looper) → HasLoops n l →
      is_allowed n c ≡ true → KeepsLooper frame l →
      pending test (askers_of l.tracks) + one test (option_map (question_for e) (asked_for c))
      ≤ one test (option_map answered (reply_of c e l))
      + pending test (askers_of (performed c frame e l).tracks)
  performed-kept (Down target verb) n frame e l has allowed kept =
      let same = ap (pending test)
      (at_target-same target l.globals.selected_loop_num (pressed verb frame)
      (free_of l.chunks l.tracks) l.tracks) in
      omega arith
  performed-kept (Up target verb) n frame e l has allowed kept =
      let same = ap (pending test)
      (at_target-same target l.globals.selected_loop_num
      (released verb frame l.globals.long_press) (free_of l.chunks l.tracks) l.tracks) in
      omega arith
  performed-kept (Hit target verb) n frame e l has allowed kept =
      let same = ap (pending test) (at_target-same target l.globals.selected_loop_num (given verb)
      (free_of l.chunks l.tracks) l.tracks) in
      omega arith
  performed-kept (Set target control value) n frame e l has allowed kept =
      let same = ap (pending test)
      (at_target-same target l.globals.selected_loop_num (sets control value)
      (free_of l.chunks l.tracks) l.tracks) in
      omega arith
  performed-kept (SetGlobal control value) n frame e l has allowed kept = omega arith
  performed-kept (Get target control) n frame e l has allowed kept =
      let there = target_there n target l has
      (and_parts (is_single_target n target) (is_of_loop control) allowed).0 in
      let got = got-kept test e (reply_index target l) (Value control)
      (value_on control (free_of l.chunks l.tracks)) there.0 (track_of target l) there.1 in
      omega arith
  performed-kept (GetGlobal control) n frame e l has allowed kept = omega arith
  performed-kept (SaveLoop target name) n frame e l has allowed kept =
      let there = target_there n target l has (single_of n target name allowed) in
      let k = index_of target l.globals.selected_loop_num in
      loop-kept test (refusal_at target l) e (reply_index target l) k l
      (λ unrefused. none_where_free k there.0 l.tracks there.1
      (unasked frame there.0 (track_at frame k l.tracks there.0 kept.looper.tracks there.1)
      (sym (ap (option_and_then save_refusal) there.1) ∙ unrefused)))
  performed-kept (SaveSession name) n frame e l has allowed kept =
      let count = and_parts (nat_le 1 (length l.tracks)) (nat_le (length l.tracks) 16)
      kept.looper.count in
      let some : 1 ≤ length l.tracks = leb-true 1 (length l.tracks) count.0 in
      let same = length-askers l.tracks in
      session_save-kept test (session_refusal l.tracks) e (negsuc 1) l (omega arith)
      (λ unrefused. none_unpinned frame l.tracks kept.looper.tracks
      (session_unrefused l.tracks (any_pinned l.tracks) refl unrefused))
  performed-kept (Release target outcome) n frame e l has allowed kept =
      let less = release-kept test target outcome l (whole_askers l.tracks kept.session) in
      omega arith
  performed-kept Quit n frame e l has allowed kept = omega arith

  -- an entry's question is answered, or its save runs
  pub applied-exact : (n frame : ℕ) (e : Entry) (l : Looper) → HasLoops n l →
      KeepsLooper frame l →
      pending test (askers_of l.tracks) + asked test (valid_ones n (e ∷ []))
      ≡ one test (option_map answered (reply e l))
      + pending test (askers_of (applied frame e l).tracks)
  applied-exact n frame e l has kept = by_taken (is_taken e l) refl
    where
      by_taken : (b : Bool) → is_valid (length l.tracks) e ≡ b →
          pending test (askers_of l.tracks) + asked test (valid_ones n (e ∷ []))
          ≡ one test (option_map answered (if b then reply_of e.command e l else None))
          + pending test (askers_of (if b then performed e.command frame e l else l).tracks)
      by_taken true valid =
          let here = subst (λ k. is_valid k e ≡ true) has.loops valid in
          let own = asked-cons test e [] in
          let all = performed-kept e.command n frame e l has
          (and_parts (is_sender e.sender e.command) (is_allowed n e.command) here).1 kept in
          let most = performed-count test e.command frame e l in
          rw here (omega arith)
      by_taken false valid =
          let here = subst (λ k. is_valid k e ≡ false) has.loops valid in
          rw here (omega arith)

  entered-exact : (n frame : ℕ) (es : List Entry) (l : Looper) → HasLoops n l →
      KeepsLooper frame l →
      running_of test l + asked test (valid_ones n es)
      ≡ told test (entered frame es l).replies + running_of test (entered frame es l).looper
  entered-exact n frame [] l has kept = omega arith
  entered-exact n frame (e ∷ es) l has kept =
      let now = applied frame e l in
      let both = told-append test (option_to_list (reply e l)) (entered frame es now).replies in
      let first = told-option test (reply e l) in
      let here = applied-exact n frame e l has kept in
      let rest = entered-exact n frame es now (applied-has_loops n frame e l has)
      (entry_keeps frame e l kept) in
      let split = ap (asked test) (filter-append (is_valid n) (e ∷ []) es)
      ∙ asked-append test (valid_ones n (e ∷ [])) (valid_ones n es) in
      omega arith

  begun-exact : (n frame : ℕ) (es : List Entry) (xs : List Sound) (l : Looper) → HasLoops n l →
      KeepsLooper frame l →
      running_of test l + asked test (valid_ones n es)
      ≡ told test (begun frame es xs l).replies + running_of test (begun frame es xs l).looper
      + asked test (valid_ones n (begun frame es xs l).left)
  begun-exact n frame es [] l has kept = omega arith
  begun-exact n frame es (x ∷ xs) l has kept =
      let before = entered frame (due frame es) l in
      let now = framed frame x before.looper in
      let next = begun (frame + 1) (later frame es) xs now.looper in
      let both = told-append test before.replies next.replies in
      let has_before = entered-has_loops n frame (due frame es) l has in
      let kept_before = entered_keeps frame (due frame es) l kept in
      let here = entered-exact n frame (due frame es) l has kept in
      let same = ap (pending test) (framed-same frame x before.looper) in
      let rest = begun-exact n (frame + 1) (later frame es) xs now.looper
      (framed-has_loops n frame x before.looper has_before)
      (frame_keeps frame frame x before.looper kept_before) in
      let split = ap (λ all. asked test (valid_ones n all)) (sym (due-later frame es))
      ∙ ap (asked test) (filter-append (is_valid n) (due frame es) (later frame es))
      ∙ asked-append test (valid_ones n (due frame es)) (valid_ones n (later frame es)) in
      omega arith

  -- where no save runs at the end, the valid questions are those that are answered
  pub run-exact : (n : ℕ) (es : List Entry) (input : List Sound) (l : Looper) → HasLoops n l →
      KeepsLooper 0 l → AreNone (askers_of (run es input l).looper.tracks) →
      told test (run es input l).replies ≡ running_of test l + asked test (valid_ones n es)
  run-exact n es input l has kept none =
      let first = begun 0 es input l in
      let last = entered (length input) first.left first.looper in
      let both = told-append test first.replies last.replies in
      let here = begun-exact n 0 es input l has kept in
      let kept_first : KeepsLooper (length input) first.looper =
      subst (λ at. KeepsLooper at first.looper) (sum_zero (length input))
      (begun_keeps 0 es input l kept) in
      let rest = entered-exact n (length input) first.left first.looper
      (begun-has_loops n 0 es input l has) kept_first in
      let over = pending-none test (askers_of last.looper.tracks) none in
      omega arith
    where
      sum_zero : (k : ℕ) → 0 + k ≡ k
      sum_zero k = omega arith

-- where nobody's save is unanswered, nobody asked
none_owned : (ts : List Track) → ((k : ℕ) → IfSome (slice_get (map hold_on ts) k) (IsOwned [] k)) →
    AreNone (askers_of ts)
none_owned [] owned = tt
none_owned (t ∷ ts) owned =
    (no_owner t.asker (owned zero), none_owned ts (λ k. owned (suc k)))
  where
    no_owner : (a : Option Asker) → IfSome a (λ asker. ⊥) → a ≡ None
    no_owner None h = refl
    no_owner (Some asker) h = absurd h

-- in a run from its start, all of whose saves are answered
pub start-exact : (test : Question → Bool) (settings : LooperSettings) (chunks : ℕ)
    (initial : List (List Sound)) (es : List Entry) (input : List Sound) →
    IsBeginning settings chunks initial →
    HoldPins (unanswered es input (start settings chunks initial))
    (holds_of (run es input (start settings chunks initial)).looper) →
    unanswered es input (start settings chunks initial) ≡ [] →
    told test (run es input (start settings chunks initial)).replies
    ≡ asked test (valid_ones (length settings.strips) es)
start-exact test settings chunks initial es input begins held answered_all =
    let l = start settings chunks initial in
    let none = none_owned (run es input l).looper.tracks
    (subst (λ saves. HoldPins saves (holds_of (run es input l).looper)) answered_all held).owned in
    let loops = length-first_tracks settings.strips initial in
    let selects = start-selects settings chunks initial begins.in_range in
    let has : HasLoops (length settings.strips) l = record {
      loops = loops;
      selects = subst (λ m. l.globals.selected_loop_num < m) loops selects;
    } in
    let all = run-exact test (length settings.strips) es input l has
    (starts_kept settings chunks initial begins) none in
    let first = first-pending test settings.strips initial in
    omega arith

-- one of these questions is counted
counted_there : (test : Question → Bool) (es : List Entry) (e : Entry) (q : Question) →
    Contains es e → question e ≡ Some q → test q ≡ true → 1 ≤ asked test es
counted_there test [] e q at asks passes_it = absurd (let inside : at.0 < 0 = at.1 in omega arith)
counted_there test (x ∷ es) e q (zero, inside, is) asks passes_it =
    let same : x ≡ e = cc in
    let split = asked-cons test x es in
    let one_here : one test (question x) ≡ 1 =
    ap (λ y. one test (question y)) same ∙ ap (one test) asks ∙ ap flag passes_it in
    omega arith
counted_there test (x ∷ es) e q (suc k, inside, is) asks passes_it =
    let rest = counted_there test es e q (k, omega arith, is) asks passes_it in
    let split = asked-cons test x es in
    omega arith

pub start-once_each : (settings : LooperSettings) (chunks : ℕ) (initial : List (List Sound))
    (es : List Entry) (input : List Sound) (e : Entry) (q : Question) →
    IsBeginning settings chunks initial →
    HoldPins (unanswered es input (start settings chunks initial))
    (holds_of (run es input (start settings chunks initial)).looper) →
    unanswered es input (start settings chunks initial) ≡ [] → IsTrue (are_stamped es) →
    Contains (valid_ones (length settings.strips) es) e → question e ≡ Some q →
    count_by (is_of e.sender e.seq)
    (map answered (run es input (start settings chunks initial)).replies) ≡ 1
start-once_each settings chunks initial es input e q begins held answered_all stamped at asks =
    let test = is_of e.sender e.seq in
    let all = start-exact test settings chunks initial es input begins held answered_all in
    let most = start-once settings chunks initial es input e.sender e.seq stamped in
    let least = counted_there test (valid_ones (length settings.strips) es) e q at asks
    (own_question (asked_for e.command) asks) in
    omega arith
  where
    both_true : (a b : Bool) → a ≡ true → b ≡ true → (a && b) ≡ true
    both_true a b p r = rw p r

    own_question : (o : Option What) → option_map (question_for e) o ≡ Some q →
        is_of e.sender e.seq q ≡ true
    own_question None none = absurd (cc)
    own_question (Some what) is =
        let same : question_for e what ≡ q = cc in
        subst (λ p. is_of e.sender e.seq p ≡ true) same
        (both_true _ _ (eq-eqb e.sender e.sender refl) (eq-eqb e.seq e.seq refl))
