-- The questions of the saves that run: a save adds its own, and a release takes away what it
-- answers.
use Rattle.std.proofs.Common.{◌≡◌, ℕ, zero, suc, ◌+◌, ◌≤◌, Bool, true, false, ◌||◌, List, [], ◌∷◌, map, Option, Some, None, IfSome, option_map, if◌then◌else◌, refl, ap, le_refl, zero-le, arith}
use Rattle.std.specs.Bool.{⊤}
use Rattle.sl_commands.specs.declared.What.{What}
use Rattle.sl_commands.specs.declared.What.TheVariants.{Save as OfLoop, Session as OfSession}
use Rattle.looper_rules.specs.Looper.{Asker}
use Rattle.looper_rules.specs.Saves.{loop_asker, session_asker, asker_or}
use Rattle.run_laws.specs.Questions.{Question}
use Rattle.looper_laws.proofs.Kept.Askers.{changed_at, without, without_loop, without_session, ended_at, running}

-- the question of an asker, where there is one
abbrev pub question_as : What → Asker → Question
question_as what a = record { sender = a.sender; seq = a.seq; what = what }

abbrev pub asked_as : What → Option Asker → Option Question
asked_as what o = option_map (question_as what) o

-- the asker of a loop's save, and of a session's
abbrev pub of_loop : ℕ → ℕ → Asker
of_loop sender seq = record { sender = sender; seq = seq; of_session = false }

abbrev pub of_session : ℕ → ℕ → Asker
of_session sender seq = record { sender = sender; seq = seq; of_session = true }

-- 1 where a test passes
abbrev pub flag : Bool → ℕ
flag b = if b then 1 else 0

-- whether there is a question that passes a test
abbrev pub passes : (Question → Bool) → Option Question → Bool
passes test None = false
passes test (Some q) = test q

abbrev pub one : (Question → Bool) → Option Question → ℕ
one test o = flag (passes test o)

-- the loops' saves that run whose questions pass, and whether a session's does
abbrev pub loops : (Question → Bool) → List (Option Asker) → ℕ
loops test [] = 0
loops test (a ∷ rest) = one test (asked_as OfLoop (loop_asker a)) + loops test rest

abbrev pub session : (Question → Bool) → List (Option Asker) → Bool
session test [] = false
session test (a ∷ rest) = passes test (asked_as OfSession (session_asker a)) || session test rest

-- the saves that run whose questions pass
abbrev pub pending : (Question → Bool) → List (Option Asker) → ℕ
pending test askers = loops test askers + flag (session test askers)

flag-or : (p q r s : Bool) → flag p ≤ flag q → flag r ≤ flag s → flag (p || r) ≤ flag (q || s)
flag-or true true r s h k = le_refl 1
flag-or true false r s h k = absurd (omega arith)
flag-or false true r true h k = k
flag-or false true true false h k = le_refl 1
flag-or false true false false h k = zero-le
flag-or false false r s h k = k

flag-or_both : (p q : Bool) → flag q ≤ flag p → flag (p || q) ≤ flag p
flag-or_both true q h = le_refl 1
flag-or_both false q h = h

flag-or_left : (p q : Bool) → flag p ≤ flag (p || q)
flag-or_left true q = le_refl 1
flag-or_left false q = zero-le

module _ (test : Question → Bool) where
  -- a loop's save adds at most its question
  loops-put : (sender seq k : ℕ) (askers : List (Option Asker)) →
      loops test (changed_at k (λ a. Some (of_loop sender seq)) askers) ≤ loops test askers
      + one test (Some (question_as OfLoop (of_loop sender seq)))
  loops-put sender seq k [] = zero-le
  loops-put sender seq zero (a ∷ rest) = omega arith
  loops-put sender seq (suc k) (a ∷ rest) = let more = loops-put sender seq k rest in omega arith

  session-put : (sender seq k : ℕ) (askers : List (Option Asker)) →
      flag (session test (changed_at k (λ a. Some (of_loop sender seq)) askers)) ≤ flag
      (session test askers)
  session-put sender seq k [] = le_refl 0
  session-put sender seq zero (a ∷ rest) =
      flag-or false (passes test (asked_as OfSession (session_asker a))) (session test rest)
      (session test rest) zero-le (le_refl _)
  session-put sender seq (suc k) (a ∷ rest) =
      let p = passes test (asked_as OfSession (session_asker a)) in
      flag-or p p (session test (changed_at k (λ a. Some (of_loop sender seq)) rest))
      (session test rest) (le_refl _) (session-put sender seq k rest)

  pub pending-put : (sender seq k : ℕ) (askers : List (Option Asker)) →
      pending test (changed_at k (λ a. Some (of_loop sender seq)) askers) ≤ pending test askers
      + one test (Some (question_as OfLoop (of_loop sender seq)))
  pending-put sender seq k askers =
      let a = loops-put sender seq k askers in
      let b = session-put sender seq k askers in
      omega arith

  -- a session's save leaves its question alone
  loops-put_all : (sender seq : ℕ) (askers : List (Option Asker)) →
      loops test (map (λ a. Some (of_session sender seq)) askers) ≡ 0
  loops-put_all sender seq [] = refl
  loops-put_all sender seq (a ∷ rest) = let none = loops-put_all sender seq rest in omega arith

  session-put_all : (sender seq : ℕ) (askers : List (Option Asker)) →
      flag (session test (map (λ a. Some (of_session sender seq)) askers)) ≤ one test
      (Some (question_as OfSession (of_session sender seq)))
  session-put_all sender seq [] = zero-le
  session-put_all sender seq (a ∷ rest) =
      flag-or_both (test (question_as OfSession (of_session sender seq)))
      (session test (map (λ a. Some (of_session sender seq)) rest))
      (session-put_all sender seq rest)

  pub pending-put_all : (sender seq : ℕ) (askers : List (Option Asker)) →
      pending test (map (λ a. Some (of_session sender seq)) askers) ≤ one test
      (Some (question_as OfSession (of_session sender seq)))
  pending-put_all sender seq askers =
      let a = loops-put_all sender seq askers in
      let b = session-put_all sender seq askers in
      omega arith

  -- the release of a loop's save takes its question away
  one-without : (a o : Option Asker) → loop_asker a ≡ o →
      one test (asked_as OfLoop o) + one test (asked_as OfLoop (loop_asker (without o a))) ≤ one
      test (asked_as OfLoop (loop_asker a))
  one-without a None is = omega arith
  one-without a (Some asker) is = rw is (omega arith)

  passes-without : (a o : Option Asker) →
      flag (passes test (asked_as OfSession (session_asker (without o a)))) ≤ flag
      (passes test (asked_as OfSession (session_asker a)))
  passes-without a None = le_refl _
  passes-without a (Some asker) = zero-le

  loops-without : (k : ℕ) (askers : List (Option Asker)) →
      one test (asked_as OfLoop (ended_at k askers)) + loops test (changed_at k without_loop askers)
      ≤ loops test askers
  loops-without k [] = le_refl 0
  loops-without zero (a ∷ rest) = let here = one-without a (loop_asker a) refl in omega arith
  loops-without (suc k) (a ∷ rest) = let more = loops-without k rest in omega arith

  session-without : (k : ℕ) (askers : List (Option Asker)) →
      flag (session test (changed_at k without_loop askers)) ≤ flag (session test askers)
  session-without k [] = le_refl 0
  session-without zero (a ∷ rest) =
      flag-or _ _ (session test rest) (session test rest) (passes-without a (loop_asker a))
      (le_refl _)
  session-without (suc k) (a ∷ rest) =
      let p = passes test (asked_as OfSession (session_asker a)) in
      flag-or p p (session test (changed_at k without_loop rest)) (session test rest) (le_refl _)
      (session-without k rest)

  pub pending-without : (k : ℕ) (askers : List (Option Asker)) →
      one test (asked_as OfLoop (ended_at k askers))
      + pending test (changed_at k without_loop askers) ≤ pending test askers
  pending-without k askers = let a = loops-without k askers in let b = session-without k askers in
      omega arith

  -- the release of a session's save takes its question away
  one-without_session : (a o : Option Asker) →
      one test (asked_as OfLoop (loop_asker (without o a))) ≤ one test
      (asked_as OfLoop (loop_asker a))
  one-without_session a None = le_refl _
  one-without_session a (Some asker) = zero-le

  loops-without_all : (askers : List (Option Asker)) →
      loops test (map without_session askers) ≤ loops test askers
  loops-without_all [] = le_refl 0
  loops-without_all (a ∷ rest) =
      let here = one-without_session a (session_asker a) in
      let more = loops-without_all rest in
      omega arith

  none-without : (a o : Option Asker) → session_asker a ≡ o → session_asker (without o a) ≡ None
  none-without a None is = is
  none-without a (Some asker) is = refl

  session-without_all : (askers : List (Option Asker)) →
      session test (map without_session askers) ≡ false
  session-without_all [] = refl
  session-without_all (a ∷ rest) =
      rw (none-without a (session_asker a) refl) (session-without_all rest)

  one-running : (askers : List (Option Asker)) →
      one test (asked_as OfSession (running askers)) ≤ flag (session test askers)
  one-running [] = le_refl 0
  one-running (a ∷ rest) = by_asker (session_asker a) (one-running rest)
    where
      by_asker : (o : Option Asker) →
          one test (asked_as OfSession (running rest)) ≤ flag (session test rest) →
          one test (asked_as OfSession (asker_or o (running rest))) ≤ flag
          (passes test (asked_as OfSession o) || session test rest)
      by_asker None more = more
      by_asker (Some asker) more =
          flag-or_left (test (question_as OfSession asker)) (session test rest)

  pub pending-without_all : (askers : List (Option Asker)) →
      one test (asked_as OfSession (running askers)) + pending test (map without_session askers)
      ≤ pending test askers
  pending-without_all askers =
      let a = loops-without_all askers in
      let b = ap flag (session-without_all askers) in
      let c = one-running askers in
      omega arith

module _ (P : Question → Type 0) where
  -- what holds of the questions of all saves that run
  abbrev pub AllPending : List (Option Asker) → Type 0
  AllPending [] = ⊤
  AllPending (a ∷ rest) =
      IfSome (asked_as OfLoop (loop_asker a)) P × IfSome (asked_as OfSession (session_asker a)) P
      × AllPending rest

  pub all-put : (sender seq k : ℕ) (askers : List (Option Asker)) →
      P (question_as OfLoop (of_loop sender seq)) →
      AllPending askers → AllPending (changed_at k (λ a. Some (of_loop sender seq)) askers)
  all-put sender seq k [] p all = tt
  all-put sender seq zero (a ∷ rest) p all = (p, tt, all.2)
  all-put sender seq (suc k) (a ∷ rest) p all = (all.0, all.1, all-put sender seq k rest p all.2)

  pub all-put_all : (sender seq : ℕ) (askers : List (Option Asker)) →
      P (question_as OfSession (of_session sender seq)) →
      AllPending (map (λ a. Some (of_session sender seq)) askers)
  all-put_all sender seq [] p = tt
  all-put_all sender seq (a ∷ rest) p = (tt, p, all-put_all sender seq rest p)

  all-without_one : (a o : Option Asker) → IfSome (asked_as OfLoop (loop_asker a)) P →
      IfSome (asked_as OfSession (session_asker a)) P →
      IfSome (asked_as OfLoop (loop_asker (without o a))) P
      × IfSome (asked_as OfSession (session_asker (without o a))) P
  all-without_one a None p q = (p, q)
  all-without_one a (Some asker) p q = (tt, tt)

  pub all-ended : (k : ℕ) (askers : List (Option Asker)) → AllPending askers →
      IfSome (asked_as OfLoop (ended_at k askers)) P
  all-ended k [] all = tt
  all-ended zero (a ∷ rest) all = all.0
  all-ended (suc k) (a ∷ rest) all = all-ended k rest all.2

  pub all-without : (k : ℕ) (askers : List (Option Asker)) → AllPending askers →
      AllPending (changed_at k without_loop askers)
  all-without k [] all = tt
  all-without zero (a ∷ rest) all = let here = all-without_one a (loop_asker a) all.0 all.1 in
      (here.0, here.1, all.2)
  all-without (suc k) (a ∷ rest) all = (all.0, all.1, all-without k rest all.2)

  pub all-without_all : (askers : List (Option Asker)) → AllPending askers →
      AllPending (map without_session askers)
  all-without_all [] all = tt
  all-without_all (a ∷ rest) all =
      let here = all-without_one a (session_asker a) all.0 all.1 in
      (here.0, here.1, all-without_all rest all.2)

  pub all-running : (askers : List (Option Asker)) → AllPending askers →
      IfSome (asked_as OfSession (running askers)) P
  all-running [] all = tt
  all-running (a ∷ rest) all = by_asker (session_asker a) all.1 (all-running rest all.2)
    where
      by_asker : (o : Option Asker) → IfSome (asked_as OfSession o) P →
          IfSome (asked_as OfSession (running rest)) P →
          IfSome (asked_as OfSession (asker_or o (running rest))) P
      by_asker None p more = more
      by_asker (Some asker) p more = p
