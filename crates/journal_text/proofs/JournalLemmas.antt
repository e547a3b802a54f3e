-- The entries of a journal, and the lines that may stand one behind another.
use Rattle.std.proofs.Common.{◌≡◌, ◌==◌, ℕ, suc, ◌+◌, ◌<◌, ◌≤◌, true, cond, List, [], ◌∷◌, ◌++◌, length, refl, sym, ap, ◌∙◌, subst, arith, leb, inl, inr, ◌⊎◌, length-append, append_assoc}
use Rattle.std.specs.Prelude.{IsTrue}
use Rattle.std.proofs.lemmas.Bool.Decides.{nat_tests}
use Rattle.std.specs.List.{AllByRecursion}
use Rattle.std.proofs.lemmas.Bool.{and_parts, and_from, eqb-true, eq-eqb, cases_eq}
use Rattle.std.proofs.lemmas.List.{append-nil}
use Rattle.std.proofs.lemmas.List.Elements.{filter-append}
use Rattle.sl_base.specs.Limits.{max_session_frames}
use Rattle.sl_commands.specs.declared.entry.Entry.{Entry}
use Rattle.sl_commands.specs.Entries.{is_sender, is_valid, last_frame, may_be_next, are_stamped_behind, entries_of}
use Rattle.sl_commands.specs.Commands.{is_allowed}
use Rattle.text_lines.specs.FirstFaults.{MayAllFollow, IsText}
use Rattle.journal_text.specs.Journals.{HasLine, journal_form, IsJournal, max_lines, most_of}
use Rattle.journal_text.proofs.EntryLemmas.{sender_within}
use Rattle.journal_text.proofs.SoFarLemmas.{own_count, other_count, three}

-- each entry that may stand is valid, and acts within the session
stand_valid : (loops : ℕ) (before es : List Entry) → MayAllFollow (journal_form loops) before es →
    AllByRecursion (λ e. IsTrue (is_valid loops e)) es
stand_valid loops before [] follow = tt
stand_valid loops before (e ∷ es) follow =
    (follow.0.line.valid, stand_valid loops (before ++ e ∷ []) es follow.1)

stand_frames : (loops : ℕ) (before es : List Entry) → MayAllFollow (journal_form loops) before es →
    AllByRecursion (λ e. e.frame ≤ max_session_frames) es
stand_frames loops before [] follow = tt
stand_frames loops before (e ∷ es) follow =
    (follow.0.line.frame, stand_frames loops (before ++ e ∷ []) es follow.1)

-- they are stamped
stand_stamped : (loops : ℕ) (before es : List Entry) → MayAllFollow (journal_form loops) before es →
    are_stamped_behind before es ≡ true
stand_stamped loops before [] follow = refl
stand_stamped loops before (e ∷ es) follow =
    and_from (may_be_next before e) (are_stamped_behind (before ++ e ∷ []) es) follow.0.next
    (stand_stamped loops (before ++ e ∷ []) es follow.1)

-- one more of a sender that has few
one_more_few : (sender : ℕ) (before : List Entry) (e : Entry) →
    length (entries_of sender before) ≤ most_of sender →
    length (entries_of e.sender before) < most_of e.sender →
    length (entries_of sender (before ++ e ∷ [])) ≤ most_of sender
one_more_few sender before e few room =
    elim (cases_eq e.sender sender) [
      | inl same ↦ subst (λ (s : ℕ). length (entries_of s (before ++ e ∷ [])) ≤ most_of s) same
          (omega (arith, own_count before e))
      | inr apart ↦ omega (arith, other_count sender before e apart)
    ]

-- no sender has too many
stand_few : (loops sender : ℕ) (before es : List Entry) →
    MayAllFollow (journal_form loops) before es → length (entries_of sender before) ≤ most_of
    sender → length (entries_of sender (before ++ es)) ≤ most_of sender
stand_few loops sender before [] follow few = rw (append-nil before) few
stand_few loops sender before (e ∷ es) follow few =
    subst (λ (xs : List Entry). length (entries_of sender xs) ≤ most_of sender)
    (append_assoc before (e ∷ []) es)
    (stand_few loops sender (before ++ e ∷ []) es follow.1
    (one_more_few sender before e few follow.0.few))

-- the text of a form is a journal
pub text_is_journal : (loops : ℕ) (bytes : List ℕ) (es : List Entry) →
    IsText (journal_form loops) bytes es → IsJournal loops bytes es
text_is_journal loops bytes es is = record {
  whole = record {
    valid = stand_valid loops [] es is.follow;
    frames = stand_frames loops [] es is.follow;
    stamped = stand_stamped loops [] es is.follow;
    few = λ sender. stand_few loops sender [] es is.follow (omega arith);
  };
  spelled = is.spelled;
}

-- how many entries each sender has, over two lists
count-append : (sender : ℕ) (xs ys : List Entry) → length (entries_of sender (xs ++ ys)) ≡ length
    (entries_of sender xs) + length (entries_of sender ys)
count-append sender xs ys = ap length (filter-append (λ x. x.sender == sender) xs ys)
    ∙ length-append (entries_of sender xs) (entries_of sender ys)

-- an entry is one of its sender's
own_is_some : (e : Entry) (es : List Entry) →
    length (entries_of e.sender (e ∷ es)) ≡ suc (length (entries_of e.sender es))
own_is_some e es = ap (λ b. length (cond b (e ∷ entries_of e.sender es) (entries_of e.sender es)))
    (eq-eqb e.sender e.sender refl)

-- the senders of entries are three
abbrev AreOfThree : List Entry → Type 0
AreOfThree es = AllByRecursion (λ e. e.sender ≤ 2) es

-- one entry more of one of three senders
one_of_three :
    (e : Entry) (es : List Entry) → (e.sender ≡ 0) ⊎ ((e.sender ≡ 1) ⊎ (e.sender ≡ 2)) →
    length es ≡ length (entries_of 0 es) + length (entries_of 1 es) + length (entries_of 2 es)
    → length (e ∷ es) ≡ length (entries_of 0 (e ∷ es)) + length (entries_of 1 (e ∷ es))
    + length (entries_of 2 (e ∷ es))
one_of_three e es (inl is) sum = rw (is) (omega arith)
one_of_three e es (inr (inl is)) sum = rw (is) (omega arith)
one_of_three e es (inr (inr is)) sum = rw (is) (omega arith)

-- all entries are those of three senders
three_senders : (es : List Entry) → AreOfThree es →
    length es ≡ length (entries_of 0 es) + length (entries_of 1 es) + length (entries_of 2 es)
three_senders [] are = refl
three_senders (e ∷ es) are = one_of_three e es (three e.sender are.0) (three_senders es are.1)

-- where one of three has room, the whole has
room_of :
    (before : List Entry) (e : Entry) → (e.sender ≡ 0) ⊎ ((e.sender ≡ 1) ⊎ (e.sender ≡ 2)) →
    length before ≡ length (entries_of 0 before) + length (entries_of 1 before)
    + length (entries_of 2 before)
    → length (entries_of 0 before) ≤ most_of 0 → length (entries_of 1 before) ≤ most_of 1 →
    length (entries_of 2 before) ≤ most_of 2 →
    length (entries_of e.sender before) < most_of e.sender → length before < max_lines
room_of before e (inl is) sum osc midi saver own =
    (let own_is : length (entries_of 0 before) < most_of 0 =
    subst (λ s. length (entries_of s before) < most_of s) is own in omega arith)
room_of before e (inr (inl is)) sum osc midi saver own =
    (let own_is : length (entries_of 1 before) < most_of 1 =
    subst (λ s. length (entries_of s before) < most_of s) is own in omega arith)
room_of before e (inr (inr is)) sum osc midi saver own =
    (let own_is : length (entries_of 2 before) < most_of 2 =
    subst (λ s. length (entries_of s before) < most_of s) is own in omega arith)

-- there is room for one more where its sender has few
room_left : (before : List Entry) (e : Entry) → AreOfThree before → e.sender ≤ 2 →
    ((sender : ℕ) → length (entries_of sender before) ≤ most_of sender) →
    length (entries_of e.sender before) < most_of e.sender → length before < max_lines
room_left before e are low few own =
    room_of before e (three e.sender low) (three_senders before are) (few 0) (few 1) (few 2) own

-- no sender may have many
most_is_short : (sender : ℕ) → most_of sender ≤ 2097152
most_is_short sender = Prim.grind (arith, nat_tests)

-- the sender of a valid entry
sender_is_low : (loops : ℕ) (e : Entry) → IsTrue (is_valid loops e) → e.sender ≤ 2
sender_is_low loops e valid = sender_within e.sender e.command
    (and_parts (is_sender e.sender e.command) (is_allowed loops e.command) valid).0

-- one more of three senders
three_more : (before : List Entry) (e : Entry) → AreOfThree before → e.sender ≤ 2 →
    AreOfThree (before ++ e ∷ [])
three_more [] e are low = (low, tt)
three_more (x ∷ before) e are low = (are.0, three_more before e are.1 low)

-- entries of a journal may stand one behind another
stands :
    (loops : ℕ) (before es : List Entry) → AreOfThree before →
    AllByRecursion (λ e. IsTrue (is_valid loops e)) es →
    AllByRecursion (λ e. e.frame ≤ max_session_frames) es
    → are_stamped_behind before es ≡ true →
    ((sender : ℕ) → length (entries_of sender (before ++ es)) ≤ most_of sender) →
    MayAllFollow (journal_form loops) before es
stands loops before [] are valid frames stamped few = tt
stands loops before (e ∷ es) are valid frames stamped few =
    let parts = and_parts (may_be_next before e) (are_stamped_behind (before ++ e ∷ []) es)
    stamped in
    let next = and_parts (leb (last_frame before) e.frame)
    (e.seq == length (entries_of e.sender before)) parts.0 in
    let number : e.seq ≡ length (entries_of e.sender before) =
    eqb-true e.seq (length (entries_of e.sender before)) next.1 in
    let own : length (entries_of e.sender before) < most_of e.sender =
    omega (arith, few e.sender, count-append e.sender before (e ∷ es), own_is_some e es) in
    let all : (sender : ℕ) → length (entries_of sender before) ≤ most_of sender =
    λ sender. omega (arith, few sender, count-append sender before (e ∷ es)) in
    let low : e.sender ≤ 2 = sender_is_low loops e valid.0 in
    let line : HasLine loops e =
    record {
      valid = valid.0;
      frame = frames.0;
      number =
          omega (arith, most_is_short e.sender);
    } in (
      record { room = room_left before e are low all own; line = line; next = parts.0; few = own },
      stands loops (before ++ e ∷ []) es (three_more before e are low) valid.1 frames.1 parts.1
          (λ sender. subst (λ (xs : List Entry). length (entries_of sender xs) ≤ most_of sender)
          (sym (append_assoc before (e ∷ []) es)) (few sender)),
    )

-- a journal is the text of the form
pub journal_is_text : (loops : ℕ) (bytes : List ℕ) (es : List Entry) → IsJournal loops bytes es →
    IsText (journal_form loops) bytes es
journal_is_text loops bytes es is = record {
  follow = stands loops [] es tt is.whole.valid is.whole.frames is.whole.stamped is.whole.few;
  due = tt;
  spelled = is.spelled;
}
