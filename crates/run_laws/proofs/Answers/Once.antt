-- Of stamped entries, no two have the same sender and seq.
use Rattle.std.proofs.Common.{◌≡◌, ℕ, ◌+◌, ◌≤◌, ◌<◌, Bool, true, false, ◌&&◌, ◌==◌, List, [], ◌∷◌, ◌++◌, length, map, Option, Some, None, count_by, option_map, if◌then◌else◌, nat_le, IsTrue, refl, sym, ap, ap₂, ◌∙◌, subst, le_refl, zero-le, length-append, eqb-true, arith}
use Rattle.std.proofs.lemmas.Bool.{and_parts}
use Rattle.std.proofs.lemmas.List.Elements.{filter-append}
use Rattle.sl_base.specs.Sounds.{Sound}
use Rattle.sl_commands.specs.declared.What.{What}
use Rattle.sl_commands.specs.declared.Entry.{Entry}
use Rattle.sl_commands.specs.Entries.{entries_of, last_frame, are_stamped, are_stamped_behind, may_be_next}
use Rattle.sl_commands.specs.Settings.{LooperSettings}
use Rattle.looper_rules.specs.Run.{run, start}
use Rattle.run_laws.specs.Questions.{Question, question, question_for, asked_for, answered, is_of}
use Rattle.run_laws.proofs.Answers.Pending.{flag, passes, one}
use Rattle.run_laws.proofs.Answers.Runs.{asked, asked-cons, start-count}

-- an entry with another sender or seq doesn't ask
one-other : (sender seq : ℕ) (e : Entry) → (e.sender == sender && e.seq == seq) ≡ false →
    one (is_of sender seq) (question e) ≡ 0
one-other sender seq e other = by_question (asked_for e.command)
  where
    by_question : (o : Option What) → one (is_of sender seq) (option_map (question_for e) o) ≡ 0
    by_question None = refl
    by_question (Some what) = ap flag other

one-at_most : (test : Question → Bool) (o : Option Question) → one test o ≤ 1
one-at_most test o = by_test (passes test o)
  where
    by_test : (b : Bool) → flag b ≤ 1
    by_test true = le_refl 1
    by_test false = zero-le

-- one entry more counts where it is the sender's
length-entries_of_push : (sender : ℕ) (before : List Entry) (e : Entry) →
    length (entries_of sender (before ++ e ∷ [])) ≡ length (entries_of sender before)
    + flag (e.sender == sender)
length-entries_of_push sender before e =
    ap length (filter-append (λ e. e.sender == sender) before (e ∷ []))
    ∙ length-append (entries_of sender before) (entries_of sender (e ∷ []))
    ∙ ap (λ n. length (entries_of sender before) + n) (by_test (e.sender == sender))
  where
    by_test : (b : Bool) → length (if b then e ∷ [] else []) ≡ flag b
    by_test true = refl
    by_test false = refl

-- how many ask, where the first is the one that may, and where it isn't
first_asks : (seq had have rest all own : ℕ) → all ≡ own + rest → own ≤ 1 → have ≡ had + 1 →
    seq ≡ had →
    (seq < have → rest ≡ 0) → (all ≤ 1) × (seq < had → all ≡ 0)
first_asks seq had have rest all own whole least more is none =
    let no_more : rest ≡ 0 = none (omega arith) in
    (omega arith, λ used. absurd (omega arith))

first_differs : (seq had have rest all own : ℕ) → all ≡ own + rest → own ≡ 0 → had ≤ have →
    rest ≤ 1 →
    (seq < have → rest ≡ 0) → (all ≤ 1) × (seq < had → all ≡ 0)
first_differs seq had have rest all own whole other more least none =
    (omega arith, λ used. let no_more : rest ≡ 0 = none (omega arith) in omega arith)

-- of entries stamped behind others, at most one asks with this sender and seq, and none where the
-- seq was used before
asked_once : (sender seq : ℕ) (before es : List Entry) → are_stamped_behind before es ≡ true →
    (asked (is_of sender seq) es ≤ 1)
    × (seq < length (entries_of sender before) → asked (is_of sender seq) es ≡ 0)
asked_once sender seq before [] stamped = (zero-le, λ used. refl)
asked_once sender seq before (e ∷ es) stamped =
    let parts = and_parts (may_be_next before e) (are_stamped_behind (before ++ e ∷ []) es)
    stamped in
    let number = and_parts (nat_le (last_frame before) e.frame) _ parts.0 in
    let next = eqb-true e.seq (length (entries_of e.sender before)) number.1 in
    by_tests (e.sender == sender) (e.seq == seq) refl refl next
    (asked_once sender seq (before ++ e ∷ []) es parts.1)
  where
    differs : (e.sender == sender && e.seq == seq) ≡ false →
        (asked (is_of sender seq) es ≤ 1)
        × (seq < length (entries_of sender (before ++ e ∷ [])) →
        asked (is_of sender seq) es ≡ 0) →
        (asked (is_of sender seq) (e ∷ es) ≤ 1)
        × (seq < length (entries_of sender before) → asked (is_of sender seq) (e ∷ es) ≡ 0)
    differs other rest =
        let push = length-entries_of_push sender before e in
        let more : length (entries_of sender before) ≤ length
        (entries_of sender (before ++ e ∷ [])) = omega arith in
        first_differs seq _ _ _ _ (one (is_of sender seq) (question e))
        (asked-cons (is_of sender seq) e es) (one-other sender seq e other) more rest.0 rest.1

    by_tests : (b c : Bool) → (e.sender == sender) ≡ b → (e.seq == seq) ≡ c →
        e.seq ≡ length (entries_of e.sender before) →
        (asked (is_of sender seq) es ≤ 1)
        × (seq < length (entries_of sender (before ++ e ∷ [])) →
        asked (is_of sender seq) es ≡ 0) →
        (asked (is_of sender seq) (e ∷ es) ≤ 1)
        × (seq < length (entries_of sender before) → asked (is_of sender seq) (e ∷ es) ≡ 0)
    by_tests true true is_sender is_seq next rest =
        let own = subst (λ s. e.seq ≡ length (entries_of s before))
        (eqb-true e.sender sender is_sender) next in
        let same = eqb-true e.seq seq is_seq in
        let more = length-entries_of_push sender before e
        ∙ ap (λ b. length (entries_of sender before) + flag b) is_sender in
        first_asks seq _ _ _ _ (one (is_of sender seq) (question e))
        (asked-cons (is_of sender seq) e es) (one-at_most (is_of sender seq) (question e)) more
        (sym same ∙ own) rest.1
    by_tests true false is_sender is_seq next rest =
        differs (ap₂ (λ b c. b && c) is_sender is_seq) rest
    by_tests false c is_sender is_seq next rest =
        differs (ap (λ b. b && (e.seq == seq)) is_sender) rest

-- in a run of stamped entries from its start at most one reply has this sender and seq
pub start-once : (settings : LooperSettings) (chunks : ℕ) (initial : List (List Sound))
    (es : List Entry) (input : List Sound) (sender seq : ℕ) →
    IsTrue (are_stamped es) →
    count_by (is_of sender seq)
    (map answered (run es input (start settings chunks initial)).replies) ≤ 1
start-once settings chunks initial es input sender seq stamped =
    let all = start-count (is_of sender seq) settings chunks initial es input in
    let once = (asked_once sender seq [] es stamped).0 in
    omega arith
