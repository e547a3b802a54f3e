-- How many saves are answered: no release answers two.
use Rattle.std.proofs.Common.{◌≡◌, ℕ, zero, suc, ◌+◌, ◌≤◌, ◌<◌, pos, negsuc, Bool, true, false, not, ◌==◌, List, [], ◌∷◌, ◌++◌, length, map, filter, take, Option, Some, None, is_some, slice_get, option_map, if◌then◌else◌, nat_le, IsTrue, refl, sym, ap, ◌∙◌, subst, arith, append_assoc, append-nil, length-append, eqb-true, leb-true}
use Rattle.std.specs.Prelude.{option_to_list}
use Rattle.std.specs.Option.{option_and_then}
use Rattle.std.specs.List.{AllByRecursion}
use Rattle.std.proofs.lemmas.Bool.{and_parts}
use Rattle.std.proofs.lemmas.List.{take-take}
use Rattle.std.proofs.lemmas.List.Elements.{filter-append}
use Rattle.sl_base.specs.Sounds.{Sound}
use Rattle.sl_commands.specs.declared.What.TheVariants.{Save as OfLoop, Session as OfSession}
use Rattle.sl_commands.specs.declared.Target.{Target}
use Rattle.sl_commands.specs.declared.Target.TheVariants.{One, All, Selected}
use Rattle.sl_commands.specs.declared.Command.{Command}
use Rattle.sl_commands.specs.declared.Command.TheVariants.{Release}
use Rattle.sl_commands.specs.declared.Entry.{Entry}
use Rattle.sl_commands.specs.declared.Reply.{Reply}
use Rattle.sl_commands.specs.Commands.{is_allowed}
use Rattle.sl_commands.specs.Entries.{is_sender, entries_of, FramesNeverFall}
use Rattle.sl_commands.specs.Settings.{LooperSettings}
use Rattle.looper_rules.specs.Looper.{Asker, Track, Looper}
use Rattle.looper_rules.specs.Saves.{Save, loop_asker, session_asker, asker_or, running_session}
use Rattle.looper_rules.specs.Entries.{is_taken, reply, reply_of, release_reply, outcome_for, save}
use Rattle.looper_rules.specs.Run.{start, begun, Ran, run}
use Rattle.looper_rules.specs.Reached.{IsBeginning}
use Rattle.looper_rules.specs.Unanswered.{answers, still_unanswered, unanswered_begun, unanswered, Hold, hold_on, holds_of, HoldsLoop, IsHeld, HoldPins}
use Rattle.looper_laws.proofs.Kept.Starts.{begins, runs_entered, runs_begun}
use Rattle.run_laws.specs.Apart.{AreApart, AreAllApart}
use Rattle.run_laws.specs.Places.{run_before, met}
use Rattle.run_laws.proofs.Answers.Pending.{flag}
use Rattle.run_laws.proofs.Runs.Comes.{run_from-no_saves}
use Rattle.run_laws.proofs.Runs.Cuts.{run-run_from}
use Rattle.run_laws.proofs.Runs.Places.{before_is_before}
use Rattle.run_laws.proofs.Saves.Owners.{begun-holds, first-holds, run-holds}
use Rattle.run_laws.proofs.Saves.Apart.{entered_apart, begun_apart}
use Rattle.engine_steps.proofs.ClearLemmas.{all_stay}
use Rattle.release_laws.specs.Releases.{unanswered_before, StandsBehindItsSave, AsManyAnswered}
use Rattle.release_laws.proofs.EndLemmas.{saves-one_more, unanswered-with_one, all_at, front_never, onward}
use Rattle.release_laws.proofs.BehindLemmas.{release_behind}

-- a release answers one of saves of different loops at most
answered_target : (target other : Target) → answers target other ≡ true → other ≡ target
answered_target (One k) (One i) is = ap One (eqb-true i k is)
answered_target (One k) All is = absurd (cc)
answered_target (One k) Selected is = absurd (cc)
answered_target All (One i) is = absurd (cc)
answered_target All All is = refl
answered_target All Selected is = absurd (cc)
answered_target Selected other is = absurd (cc)

abbrev left_by : Target → List Save → List Save
left_by target saves = filter (λ (s : Save). not (answers target s.target)) saves

at_most_one_goes : (target : Target) (saves : List Save) → AreAllApart saves →
    length saves ≤ length (left_by target saves) + 1
at_most_one_goes target [] apart = omega arith
at_most_one_goes target (s ∷ saves) apart =
    by_test (answers target s.target) refl (at_most_one_goes target saves apart.1)
  where
    by_test : (b : Bool) → answers target s.target ≡ b →
        length saves ≤ length (left_by target saves) + 1 →
        length (s ∷ saves)
        ≤ length (if not b then s ∷ left_by target saves else left_by target saves) + 1
    by_test true is rest_goes =
        let own = answered_target target s.target is in
        let rest = ap length (all_stay target saves
        (subst (λ t. AllByRecursion (λ (x : Save). AreApart t x.target) saves) own apart.0)) in
        omega arith
    by_test false is rest_goes = omega arith

-- where one goes, one of them has the release's target
record GoesOne (target : Target) (saves : List Save) (P : Save → Type 0) : Type 0 where
  pub gone : Save
  pub target_is : gone.target ≡ target
  pub holds : P gone

one_goes : (target : Target) (saves : List Save) (P : Save → Type 0) → AllByRecursion P saves →
    length (left_by target saves) < length saves → GoesOne target saves P
one_goes target [] P all fewer = absurd (omega arith)
one_goes target (s ∷ saves) P all fewer =
    by_test (answers target s.target) refl (λ less. one_goes target saves P all.1 less) fewer
  where
    by_test : (b : Bool) → answers target s.target ≡ b →
        (length (left_by target saves) < length saves → GoesOne target saves P) →
        length (if not b then s ∷ left_by target saves else left_by target saves)
        < length (s ∷ saves) →
        GoesOne target (s ∷ saves) P
    by_test true is behind less =
        record { gone = s; target_is = answered_target target s.target is; holds = all.0 }
    by_test false is behind less =
        let rest = behind (omega arith) in
        record { gone = rest.gone; target_is = rest.target_is; holds = rest.holds }

-- what an entry leaves unanswered of these saves, beside what it saves itself
abbrev left_after : Entry → Looper → List Save → List Save
left_after e l saves = if is_taken e l then still_unanswered e.command saves else saves

-- an entry that answers saves is a release of the saver
command_leaves : (c : Command) (sender : ℕ) (saves : List Save) → AreAllApart saves →
    is_sender sender c ≡ true →
    length saves ≤ length (still_unanswered c saves) + flag (sender == 2)
command_leaves (Release target outcome) sender saves apart is =
    let one = at_most_one_goes target saves apart in
    let own = ap flag is in
    omega arith
command_leaves _ sender saves apart is = omega arith

entry_leaves : (e : Entry) (l : Looper) (saves : List Save) → AreAllApart saves →
    length saves ≤ length (left_after e l saves) + flag (e.sender == 2)
entry_leaves e l saves apart = by_taken (is_taken e l) refl
  where
    by_taken : (b : Bool) → is_taken e l ≡ b →
        length saves ≤ length (if b then still_unanswered e.command saves else saves)
        + flag (e.sender == 2)
    by_taken true valid =
        command_leaves e.command e.sender saves apart
        (and_parts (is_sender e.sender e.command) (is_allowed (length l.tracks) e.command) valid).0
    by_taken false valid = omega arith

-- where it answers one, it is a valid release, which gives a reply
record Releases (c : Command) (saves : List Save) : Type 0 where
  pub target : Target
  pub outcome : ℕ
  pub is : c ≡ Release target outcome
  pub fewer : length (left_by target saves) < length saves

command_releases : (c : Command) (saves : List Save) →
    length (still_unanswered c saves) < length saves → Releases c saves
command_releases (Release target outcome) saves fewer =
    record { target = target; outcome = outcome; is = refl; fewer = fewer }
command_releases _ saves fewer = absurd (omega arith)

loop_held : (lists : List (List Sound)) (k : ℕ) (ts : List Track) →
    HoldsLoop lists (slice_get (map hold_on ts) k) →
    (a : Asker) × (option_and_then (λ (t : Track). loop_asker t.asker) (slice_get ts k) ≡ Some a)
loop_held lists k [] held = absurd held
loop_held lists zero (t ∷ ts) held = by_asker (loop_asker t.asker) refl held.1
  where
    by_asker : (o : Option Asker) → loop_asker t.asker ≡ o → IsTrue (is_some o) →
        (a : Asker) × (loop_asker t.asker ≡ Some a)
    by_asker None is none = absurd (cc)
    by_asker (Some a) is there = (a, is)
loop_held lists (suc k) (t ∷ ts) held = loop_held lists k ts held

session_held : (ts : List Track) → 1 ≤ length ts →
    AllByRecursion (λ (h : Hold). IsTrue (is_some (session_asker h.asker))) (map hold_on ts) →
    (a : Asker) × (running_session ts ≡ Some a)
session_held [] some asked = absurd (omega arith)
session_held (t ∷ ts) some asked = by_asker (session_asker t.asker) asked.0
  where
    by_asker : (o : Option Asker) → IsTrue (is_some o) →
        (a : Asker) × (asker_or o (running_session ts) ≡ Some a)
    by_asker None none = absurd (cc)
    by_asker (Some a) there = (a, refl)

held_replied : (target : Target) (lists : List (List Sound)) (outcome : ℕ) (l : Looper) →
    1 ≤ length l.tracks → IsHeld target lists (holds_of l) →
    (answer : Reply) × (release_reply target outcome l ≡ Some answer)
held_replied (One k) lists outcome l some held =
    let whose = loop_held lists k l.tracks held in (
      outcome_for (pos k) OfLoop outcome whose.0,
      ap (option_map (outcome_for (pos k) OfLoop outcome)) whose.1,
    )
held_replied All lists outcome l some held =
    let whose = session_held l.tracks some held.asked in (
      outcome_for (negsuc 1) OfSession outcome whose.0,
      ap (option_map (outcome_for (negsuc 1) OfSession outcome)) whose.1,
    )
held_replied Selected lists outcome l some held = absurd held

entry_replied : (e : Entry) (l : Looper) (saves : List Save) → 1 ≤ length l.tracks →
    HoldPins saves (holds_of l) → length (left_after e l saves) < length saves →
    (answer : Reply) × (reply e l ≡ Some answer)
entry_replied e l saves some pins fewer = by_taken (is_taken e l) fewer
  where
    by_taken : (b : Bool) →
        length (if b then still_unanswered e.command saves else saves) < length saves →
        (answer : Reply) × ((if b then reply_of e.command e l else None) ≡ Some answer)
    by_taken true less =
        let release = command_releases e.command saves less in
        let gone = one_goes release.target saves
        (λ (s : Save). IsHeld s.target s.lists (holds_of l)) pins.held release.fewer in
        let replied = held_replied release.target gone.gone.lists release.outcome l some
        (subst (λ t. IsHeld t gone.gone.lists (holds_of l)) gone.target_is gone.holds) in
        (replied.0, ap (λ c. reply_of c e l) release.is ∙ replied.1)
    by_taken false less = absurd (omega arith)

-- entries of the saver with one more
entries_of-more : (sender : ℕ) (es : List Entry) (e : Entry) →
    length (entries_of sender (es ++ e ∷ []))
    ≡ length (entries_of sender es) + flag (e.sender == sender)
entries_of-more sender es e =
    ap length (filter-append (λ (x : Entry). x.sender == sender) es (e ∷ []))
    ∙ length-append (entries_of sender es) (entries_of sender (e ∷ []))
    ∙ ap (λ n. length (entries_of sender es) + n) (by_test (e.sender == sender))
  where
    by_test : (b : Bool) → length (if b then e ∷ [] else []) ≡ flag b
    by_test true = refl
    by_test false = refl

module _ (settings : LooperSettings) (chunks : ℕ) (initial : List (List Sound))
    (begins_so : IsBeginning settings chunks initial) where
  abbrev first : Looper
  first = start settings chunks initial

  all_apart : (es : List Entry) (input : List Sound) → AreAllApart (unanswered es input first)
  all_apart es input =
      let so_far = begun 0 es input first in
      let left = unanswered_begun 0 es input first [] in
      let kept = begins settings chunks initial begins_so in
      let free = first-holds settings.strips initial in
      entered_apart (length input) so_far.left so_far.looper left
      (runs_begun settings chunks initial begins_so es input)
      (begun-holds 0 es input first [] kept free) (begun_apart 0 es input first [] kept free tt)

  some_tracks : (es : List Entry) (input : List Sound) →
      1 ≤ length (run es input first).looper.tracks
  some_tracks es input =
      let many = length (run es input first).looper.tracks in
      let kept = runs_entered settings chunks initial begins_so es
      (begun 0 es input first).left input in
      leb-true 1 many (and_parts (nat_le 1 many) _ kept.looper.count).0

  -- no more saves are answered than the saver has entries
  abbrev AtMost : List Entry → Type 0
  AtMost es = (input : List Sound) →
      length (run es input first).saves
      ≤ length (unanswered es input first) + length (entries_of 2 es)

  -- the parts of the count, with one entry more
  record Counted (es : List Entry) (e : Entry) (input : List Sound) : Type 0 where
    pub made : ℕ
    pub saves : length (run (es ++ e ∷ []) input first).saves
        ≡ length (run_before es e input first).saves + made
    pub left : length (unanswered (es ++ e ∷ []) input first)
        ≡ length (left_after e (met es e input first) (unanswered_before es e input first)) + made
    pub releases : length (entries_of 2 (es ++ e ∷ []))
        ≡ length (entries_of 2 es) + flag (e.sender == 2)
    pub leaves : length (unanswered_before es e input first)
        ≤ length (left_after e (met es e input first) (unanswered_before es e input first))
        + flag (e.sender == 2)

  counted : (es : List Entry) (e : Entry) (input : List Sound) → FramesNeverFall 0 (es ++ e ∷ []) →
      Counted es e input
  counted es e input never =
      let there = met es e input first in
      let made = option_to_list (save e there) in
      let saves = unanswered_before es e input first in
      record {
        made = length made;
        saves = ap length (saves-one_more es e input first never)
            ∙ length-append (run_before es e input first).saves made;
        left = ap length (unanswered-with_one es e input first never)
            ∙ length-append (left_after e there saves) made;
        releases = entries_of-more 2 es e;
        leaves = entry_leaves e there saves (all_apart es (take e.frame input));
      }

  at_most_more : (es : List Entry) (e : Entry) → FramesNeverFall 0 (es ++ e ∷ []) → AtMost es →
      AtMost (es ++ e ∷ [])
  at_most_more es e never most input =
      let parts = counted es e input never in
      let before = most (take e.frame input) in
      let saves = parts.saves in
      let left = parts.left in
      let releases = parts.releases in
      let leaves = parts.leaves in
      omega arith

  none_yet : AtMost []
  none_yet input =
      let none = ap length (ap (λ (r : Ran). r.saves) (run-run_from [] input first)
      ∙ run_from-no_saves 0 input first) in
      omega arith

  pub at_most : (es : List Entry) → FramesNeverFall 0 es → AtMost es
  at_most es never = onward AtMost at_most_more [] es never none_yet

  -- where as many are answered, as many were before the last entry, and it answers one where it is
  -- the saver's
  full_before : (es : List Entry) (e : Entry) (input : List Sound) →
      FramesNeverFall 0 (es ++ e ∷ []) → AsManyAnswered (es ++ e ∷ []) input first →
      AsManyAnswered es (take e.frame input) first
      × (length (unanswered_before es e input first)
      ≡ length (left_after e (met es e input first) (unanswered_before es e input first))
      + flag (e.sender == 2))
  full_before es e input never full =
      let parts = counted es e input never in
      let before = at_most es (front_never 0 es (e ∷ []) never) (take e.frame input) in
      let saves = parts.saves in
      let left = parts.left in
      let releases = parts.releases in
      let leaves = parts.leaves in
      (omega arith, omega arith)

  -- as many are answered up to an entry, over frames that begin with those before it
  record FullAt (before : List Entry) (e : Entry) (input : List Sound) : Type 0 where
    pub xs : List Sound
    pub same : take e.frame xs ≡ take e.frame input
    pub full : AsManyAnswered (before ++ e ∷ []) xs first

  -- with entries behind it that were put there one by one
  full_at : (before : List Entry) (e : Entry) (done rest : List Entry) →
      FramesNeverFall 0 ((before ++ e ∷ done) ++ rest) →
      ((input : List Sound) → AsManyAnswered (before ++ e ∷ done) input first →
      FullAt before e input) →
      (input : List Sound) → AsManyAnswered ((before ++ e ∷ done) ++ rest) input first →
      FullAt before e input
  full_at before e done [] never so_far input full =
      so_far input
      (subst (λ es. AsManyAnswered es input first) (append-nil (before ++ e ∷ done)) full)
  full_at before e done (x ∷ rest) never so_far input full =
      let es = before ++ e ∷ done in
      let outer : (es ++ x ∷ []) ++ rest ≡ es ++ x ∷ rest = append_assoc es (x ∷ []) rest in
      let inner : es ++ x ∷ [] ≡ before ++ e ∷ (done ++ x ∷ []) =
      append_assoc before (e ∷ done) (x ∷ []) in
      let joins = ap (λ front. front ++ rest) (sym inner) ∙ outer in
      let whole = subst (λ all. FramesNeverFall 0 all) (sym joins) never in
      let one = subst (λ all. FramesNeverFall 0 all) (sym inner)
      (front_never 0 (before ++ e ∷ (done ++ x ∷ [])) rest whole) in
      full_at before e (done ++ x ∷ []) rest whole
      (λ zs here.
      let was = full_before es x zs one
      (subst (λ all. AsManyAnswered all zs first) (sym inner) here) in
      let at = so_far (take x.frame zs) was.0 in
      record {
        xs = at.xs;
        same = at.same ∙ take-take e.frame x.frame zs (later_frame before e done x one);
        full = at.full;
      })
      input (subst (λ all. AsManyAnswered all input first) (sym joins) full)
    where
      later_frame : (before : List Entry) (e : Entry) (done : List Entry) (x : Entry) →
          FramesNeverFall 0 ((before ++ e ∷ done) ++ x ∷ []) → e.frame ≤ x.frame
      later_frame before e done x never =
          all_at (λ (b : Entry). b.frame ≤ x.frame) before e done
          (before_is_before (before ++ e ∷ done) x [] never)

  -- each of the saver's entries answers one, so that one more was unanswered before it
  each_answers : (before : List Entry) (e : Entry) (after : List Entry) (input : List Sound) →
      FramesNeverFall 0 (before ++ e ∷ after) → AsManyAnswered (before ++ e ∷ after) input first →
      e.sender ≡ 2 →
      AsManyAnswered before (take e.frame input) first
      × (length (left_after e (met before e input first) (unanswered_before before e input first))
      < length (unanswered_before before e input first))
  each_answers before e after input never full of_saver =
      let joins : (before ++ e ∷ []) ++ after ≡ before ++ e ∷ after =
      append_assoc before (e ∷ []) after in
      let whole = subst (λ all. FramesNeverFall 0 all) (sym joins) never in
      let at = full_at before e [] after whole
      (λ zs here. record { xs = zs; same = refl; full = here }) input
      (subst (λ all. AsManyAnswered all input first) (sym joins) full) in
      let was = full_before before e at.xs (front_never 0 (before ++ e ∷ []) after whole) at.full in
      let one : flag (e.sender == 2) ≡ 1 = ap (λ s. flag (s == 2)) of_saver in
      let there = subst
      (λ zs. length (unanswered before zs first)
      ≡ length (left_after e (run before zs first).looper (unanswered before zs first))
      + flag (e.sender == 2)) at.same was.1 in
      (subst (λ zs. AsManyAnswered before zs first) at.same was.0, omega arith)

  pub each_behind : (before : List Entry) (e : Entry) (after : List Entry) (input : List Sound) →
      FramesNeverFall 0 (before ++ e ∷ after) → AsManyAnswered (before ++ e ∷ after) input first →
      e.sender ≡ 2 → StandsBehindItsSave before e input first
  each_behind before e after input never full of_saver =
      let xs = take e.frame input in
      let answers_one = (each_answers before e after input never full of_saver).1 in
      let replied = entry_replied e (met before e input first)
      (unanswered_before before e input first) (some_tracks before xs)
      (run-holds settings chunks initial before xs begins_so) answers_one in
      record {
        answer = replied.0;
        gives = replied.1;
        save_before = release_behind settings chunks initial before e after input replied.0 never
            of_saver replied.1;
      }

  pub more_saves : (before : List Entry) (e : Entry) (after : List Entry) (input : List Sound) →
      FramesNeverFall 0 (before ++ e ∷ after) → AsManyAnswered (before ++ e ∷ after) input first →
      e.sender ≡ 2 → length (entries_of 2 before) < length (run_before before e input first).saves
  more_saves before e after input never full of_saver =
      let here = each_answers before e after input never full of_saver in
      let many = here.0 in
      let fewer = here.1 in
      omega arith
