-- An entry's reply answers the entry itself or a save that runs, and no save is answered twice.
use Rattle.std.proofs.Common.{◌≡◌, ℕ, ◌+◌, ◌≤◌, ℤ, pos, negsuc, Bool, true, false, List, Option, Some, None, IfSome, option_map, if◌then◌else◌, refl, sym, ap, ◌∙◌, subst, le_refl, zero-le, arith}
use Rattle.sl_commands.specs.declared.What.{What}
use Rattle.sl_commands.specs.declared.What.TheVariants.{Value, Save as OfLoop, Session as OfSession}
use Rattle.sl_commands.specs.declared.Target.{Target}
use Rattle.sl_commands.specs.declared.Target.TheVariants.{One, All, Selected}
use Rattle.sl_commands.specs.declared.Command.{Command}
use Rattle.sl_commands.specs.declared.Command.TheVariants.{Down, Up, Hit, Set, SetGlobal, Get, GetGlobal, SaveLoop, SaveSession, Release, Quit}
use Rattle.sl_commands.specs.declared.Entry.{Entry}
use Rattle.looper_rules.specs.Presses.{given, pressed, released}
use Rattle.looper_rules.specs.Looper.{Asker, Track, Looper, free_of, index_of}
use Rattle.looper_rules.specs.Saves.{session_refusal, running_session}
use Rattle.looper_rules.specs.Entries.{is_taken, sets, applied, performed, asker_of, refusal_at, saves_loop, saves_session, releases, reply, reply_of, reply_to, release_reply, outcome_for, ended_asker, track_of, reply_index, value_on}
use Rattle.run_laws.specs.Questions.{Question, question, question_for, asked_for, answered}
use Rattle.looper_laws.proofs.Kept.Askers.{askers_of, at_target-same, at_index-pinned, map-pinned, at_index-released, map-released, ended_asker-at, running-tracks}
use Rattle.run_laws.proofs.Answers.Pending.{asked_as, of_loop, of_session, one, pending, pending-put, pending-put_all, pending-without, pending-without_all, AllPending, all-put, all-put_all, all-ended, all-without, all-without_all, all-running}

-- the answer to a save is to its asker's question
pub answered-outcome : (index : ℤ) (what : What) (outcome : ℕ) (o : Option Asker) →
    option_map answered (option_map (outcome_for index what outcome) o) ≡ asked_as what o
answered-outcome index what outcome None = refl
answered-outcome index what outcome (Some asker) = refl

module _ (test : Question → Bool) where
  -- a get is answered once at most
  one-got : (e : Entry) (index : ℤ) (what : What) (value : Track → ℤ) (o : Option Track) →
      one test (option_map answered (option_map (λ t. reply_to e index what (value t)) o)) ≤ one
      test (Some (question_for e what))
  one-got e index what value None = zero-le
  one-got e index what value (Some t) = le_refl _

  loop-count : (refusal : Option ℕ) (e : Entry) (index : ℤ) (k : ℕ) (l : Looper) →
      one test (option_map answered (option_map (λ n. reply_to e index OfLoop (pos n)) refusal))
      + pending test (askers_of (saves_loop refusal k (asker_of e false) l).tracks) ≤ pending test
      (askers_of l.tracks) + one test (Some (question_for e OfLoop))
  loop-count None e index k l =
      let same = ap (pending test) (at_index-pinned k (of_loop e.sender e.seq) 0 l.tracks) in
      let put = pending-put test e.sender e.seq k (askers_of l.tracks) in
      omega arith
  loop-count (Some n) e index k l = omega arith

  session-count : (refusal : Option ℕ) (e : Entry) (index : ℤ) (l : Looper) →
      one test (option_map answered (option_map (λ n. reply_to e index OfSession (pos n)) refusal))
      + pending test (askers_of (saves_session refusal (asker_of e true) l).tracks) ≤ pending test
      (askers_of l.tracks) + one test (Some (question_for e OfSession))
  session-count None e index l =
      let same = ap (pending test) (map-pinned (of_session e.sender e.seq) l.tracks) in
      let put = pending-put_all test e.sender e.seq (askers_of l.tracks) in
      omega arith
  session-count (Some n) e index l = omega arith

  release-count : (target : Target) (outcome : ℕ) (l : Looper) →
      one test (option_map answered (release_reply target outcome l))
      + pending test (askers_of (releases target l).tracks) ≤ pending test (askers_of l.tracks)
  release-count (One k) outcome l =
      let told = ap (one test) (answered-outcome (pos k) OfLoop outcome (ended_asker k l)
      ∙ ap (asked_as OfLoop) (ended_asker-at k l)) in
      let same = ap (pending test) (at_index-released k 0 l.tracks) in
      let less = pending-without test k (askers_of l.tracks) in
      omega arith
  release-count All outcome l =
      let told = ap (one test)
      (answered-outcome (negsuc 1) OfSession outcome (running_session l.tracks)
      ∙ ap (asked_as OfSession) (running-tracks l.tracks)) in
      let same = ap (pending test) (map-released l.tracks) in
      let less = pending-without_all test (askers_of l.tracks) in
      omega arith
  release-count Selected outcome l = omega arith

  pub performed-count : (c : Command) (frame : ℕ) (e : Entry) (l : Looper) →
      one test (option_map answered (reply_of c e l))
      + pending test (askers_of (performed c frame e l).tracks) ≤ pending test
      (askers_of l.tracks) + one test (option_map (question_for e) (asked_for c))
  performed-count (Down target verb) frame e l =
      let same = ap (pending test)
      (at_target-same target l.globals.selected_loop_num (pressed verb frame)
      (free_of l.chunks l.tracks) l.tracks) in
      omega arith
  performed-count (Up target verb) frame e l =
      let same = ap (pending test)
      (at_target-same target l.globals.selected_loop_num
      (released verb frame l.globals.long_press) (free_of l.chunks l.tracks) l.tracks) in
      omega arith
  performed-count (Hit target verb) frame e l =
      let same = ap (pending test) (at_target-same target l.globals.selected_loop_num (given verb)
      (free_of l.chunks l.tracks) l.tracks) in
      omega arith
  performed-count (Set target control value) frame e l =
      let same = ap (pending test)
      (at_target-same target l.globals.selected_loop_num (sets control value)
      (free_of l.chunks l.tracks) l.tracks) in
      omega arith
  performed-count (SetGlobal control value) frame e l = omega arith
  performed-count (Get target control) frame e l =
      let got = one-got e (reply_index target l) (Value control)
      (value_on control (free_of l.chunks l.tracks)) (track_of target l) in
      omega arith
  performed-count (GetGlobal control) frame e l = omega arith
  performed-count (SaveLoop target name) frame e l =
      loop-count (refusal_at target l) e (reply_index target l)
      (index_of target l.globals.selected_loop_num) l
  performed-count (SaveSession name) frame e l =
      session-count (session_refusal l.tracks) e (negsuc 1) l
  performed-count (Release target outcome) frame e l = let less = release-count target outcome l in
      omega arith
  performed-count Quit frame e l = omega arith

  -- an entry's reply and the saves that then run are among the saves that ran and its own question
  pub applied-count : (frame : ℕ) (e : Entry) (l : Looper) →
      one test (option_map answered (reply e l))
      + pending test (askers_of (applied frame e l).tracks) ≤ pending test (askers_of l.tracks)
      + one test (question e)
  applied-count frame e l = by_taken (is_taken e l) (performed-count e.command frame e l)
    where
      by_taken : (b : Bool) →
          one test (option_map answered (reply_of e.command e l))
          + pending test (askers_of (performed e.command frame e l).tracks) ≤ pending test
          (askers_of l.tracks) + one test (question e) →
          one test (option_map answered (if b then reply_of e.command e l else None))
          + pending test (askers_of (if b then performed e.command frame e l else l).tracks)
          ≤ pending test (askers_of l.tracks) + one test (question e)
      by_taken true holds = holds
      by_taken false holds = omega arith

module _ (P : Question → Type 0) where
  some-got : (e : Entry) (index : ℤ) (what : What) (value : Track → ℤ) (o : Option Track) →
      P (question_for e what) →
      IfSome (option_map answered (option_map (λ t. reply_to e index what (value t)) o)) P
  some-got e index what value None p = tt
  some-got e index what value (Some t) p = p

  loop-all : (refusal : Option ℕ) (e : Entry) (index : ℤ) (k : ℕ) (l : Looper) →
      P (question_for e OfLoop) →
      AllPending P (askers_of l.tracks) →
      IfSome (option_map answered (option_map (λ n. reply_to e index OfLoop (pos n)) refusal)) P
      × AllPending P (askers_of (saves_loop refusal k (asker_of e false) l).tracks)
  loop-all None e index k l p all = (
    tt,
    subst (AllPending P) (sym (at_index-pinned k (of_loop e.sender e.seq) 0 l.tracks))
        (all-put P e.sender e.seq k (askers_of l.tracks) p all),
  )
  loop-all (Some n) e index k l p all = (p, all)

  session-all : (refusal : Option ℕ) (e : Entry) (index : ℤ) (l : Looper) →
      P (question_for e OfSession) →
      AllPending P (askers_of l.tracks) →
      IfSome (option_map answered (option_map (λ n. reply_to e index OfSession (pos n)) refusal)) P
      × AllPending P (askers_of (saves_session refusal (asker_of e true) l).tracks)
  session-all None e index l p all = (
    tt,
    subst (AllPending P) (sym (map-pinned (of_session e.sender e.seq) l.tracks))
        (all-put_all P e.sender e.seq (askers_of l.tracks) p),
  )
  session-all (Some n) e index l p all = (p, all)

  release-all : (target : Target) (outcome : ℕ) (l : Looper) → AllPending P (askers_of l.tracks) →
      IfSome (option_map answered (release_reply target outcome l)) P
      × AllPending P (askers_of (releases target l).tracks)
  release-all (One k) outcome l all =
      let told = answered-outcome (pos k) OfLoop outcome (ended_asker k l)
      ∙ ap (asked_as OfLoop) (ended_asker-at k l) in (
        subst (λ o. IfSome o P) (sym told) (all-ended P k (askers_of l.tracks) all),
        subst (AllPending P) (sym (at_index-released k 0 l.tracks))
            (all-without P k (askers_of l.tracks) all),
      )
  release-all All outcome l all =
      let told = answered-outcome (negsuc 1) OfSession outcome (running_session l.tracks)
      ∙ ap (asked_as OfSession) (running-tracks l.tracks) in (
        subst (λ o. IfSome o P) (sym told) (all-running P (askers_of l.tracks) all),
        subst (AllPending P) (sym (map-released l.tracks))
            (all-without_all P (askers_of l.tracks) all),
      )
  release-all Selected outcome l all = (tt, all)

  same-all : (old now : List Track) → askers_of now ≡ askers_of old → AllPending P (askers_of old) →
      AllPending P (askers_of now)
  same-all old now same all = subst (AllPending P) (sym same) all

  performed-all : (c : Command) (frame : ℕ) (e : Entry) (l : Looper) →
      IfSome (option_map (question_for e) (asked_for c)) P → AllPending P (askers_of l.tracks) →
      IfSome (option_map answered (reply_of c e l)) P
      × AllPending P (askers_of (performed c frame e l).tracks)
  performed-all (Down target verb) frame e l p all = (
    tt,
    same-all l.tracks _
        (at_target-same target l.globals.selected_loop_num (pressed verb frame)
        (free_of l.chunks l.tracks) l.tracks) all,
  )
  performed-all (Up target verb) frame e l p all = (
    tt,
    same-all l.tracks _
        (at_target-same target l.globals.selected_loop_num
        (released verb frame l.globals.long_press) (free_of l.chunks l.tracks) l.tracks) all,
  )
  performed-all (Hit target verb) frame e l p all = (
    tt,
    same-all l.tracks _ (at_target-same target l.globals.selected_loop_num (given verb)
        (free_of l.chunks l.tracks) l.tracks) all,
  )
  performed-all (Set target control value) frame e l p all = (
    tt,
    same-all l.tracks _
        (at_target-same target l.globals.selected_loop_num (sets control value)
        (free_of l.chunks l.tracks) l.tracks) all,
  )
  performed-all (SetGlobal control value) frame e l p all = (tt, all)
  performed-all (Get target control) frame e l p all = (
    some-got e (reply_index target l) (Value control)
        (value_on control (free_of l.chunks l.tracks)) (track_of target l) p,
    all,
  )
  performed-all (GetGlobal control) frame e l p all = (p, all)
  performed-all (SaveLoop target name) frame e l p all =
      loop-all (refusal_at target l) e (reply_index target l)
      (index_of target l.globals.selected_loop_num) l p all
  performed-all (SaveSession name) frame e l p all =
      session-all (session_refusal l.tracks) e (negsuc 1) l p all
  performed-all (Release target outcome) frame e l p all = release-all target outcome l all
  performed-all Quit frame e l p all = (tt, all)

  -- what holds of an entry's question and of those of the saves that run holds of its reply and of
  -- the saves that then run
  pub applied-all : (frame : ℕ) (e : Entry) (l : Looper) → IfSome (question e) P →
      AllPending P (askers_of l.tracks) →
      IfSome (option_map answered (reply e l)) P
      × AllPending P (askers_of (applied frame e l).tracks)
  applied-all frame e l p all = by_taken (is_taken e l) (performed-all e.command frame e l p all)
    where
      by_taken : (b : Bool) →
          IfSome (option_map answered (reply_of e.command e l)) P
          × AllPending P (askers_of (performed e.command frame e l).tracks) →
          IfSome (option_map answered (if b then reply_of e.command e l else None)) P
          × AllPending P (askers_of (if b then performed e.command frame e l else l).tracks)
      by_taken true holds = holds
      by_taken false holds = (tt, all)
