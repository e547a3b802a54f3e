-- The entries of a journal have room, and there are few of them.
use Rattle.std.proofs.Common.{◌≡◌, ℕ, zero, suc, ◌+◌, ◌^◌, ◌≤◌, ◌<◌, Bool, true, false, cond, List, [], ◌∷◌, length, refl, ap, ◌∙◌, arith}
use Rattle.std.specs.Prelude.{IsTrue, ◌==◌}
use Rattle.std.specs.List.{AllByRecursion}
use Rattle.std.proofs.lemmas.Bool.{and_parts, eqb-true, ltb-true}
use Rattle.sl_base.specs.Limits.{max_quota}
use Rattle.sl_commands.specs.declared.Command.{Command}
use Rattle.sl_commands.specs.declared.Command.TheVariants.{Down, Up, Hit, Set, SetGlobal, Get, GetGlobal, SaveLoop, SaveSession, Release, Quit}
use Rattle.sl_commands.specs.declared.Entry.{Entry}
use Rattle.sl_commands.specs.Commands.{is_allowed}
use Rattle.sl_commands.specs.Entries.{is_sender, is_valid, entries_of}
use Rattle.journal_text.specs.Journals.{AreOfJournal}
use Rattle.journal_run.specs.Performing.{HasRoomFor}

-- a sender is 0, 1 or 2
sender_below : (sender : ℕ) (c : Command) → is_sender sender c ≡ true → sender < 3
sender_below sender (Release target outcome) is = let same = eqb-true sender 2 is in omega arith
sender_below sender (Down target verb) is = let less = ltb-true sender 2 is in omega arith
sender_below sender (Up target verb) is = let less = ltb-true sender 2 is in omega arith
sender_below sender (Hit target verb) is = let less = ltb-true sender 2 is in omega arith
sender_below sender (Set target control value) is = let less = ltb-true sender 2 is in omega arith
sender_below sender (SetGlobal control value) is = let less = ltb-true sender 2 is in omega arith
sender_below sender (Get target control) is = let less = ltb-true sender 2 is in omega arith
sender_below sender (GetGlobal control) is = let less = ltb-true sender 2 is in omega arith
sender_below sender (SaveLoop target name) is = let less = ltb-true sender 2 is in omega arith
sender_below sender (SaveSession name) is = let less = ltb-true sender 2 is in omega arith
sender_below sender Quit is = let less = ltb-true sender 2 is in omega arith

valid_sender : (loops : ℕ) (e : Entry) → IsTrue (is_valid loops e) → e.sender < 3
valid_sender loops e valid = sender_below e.sender e.command
    (and_parts (is_sender e.sender e.command) (is_allowed loops e.command) valid).0

-- one entry more of a sender
one_more : (e : Entry) (es : List Entry) (sender : ℕ) →
    length (entries_of sender (e ∷ es)) ≡ (cond (e.sender == sender) 1 0)
    + length (entries_of sender es)
one_more e es sender = by (e.sender == sender)
  where
    by : (b : Bool) → length (cond b (e ∷ entries_of sender es) (entries_of sender es))
        ≡ (cond b 1 0) + length (entries_of sender es)
    by true = let one : suc (length (entries_of sender es)) ≡ 1 + length (entries_of sender es) =
        omega arith in one
    by false = let none : length (entries_of sender es) ≡ 0 + length (entries_of sender es) =
        omega arith in none

-- other senders have none
none_of : (loops sender : ℕ) (es : List Entry) → 3 ≤ sender →
    AllByRecursion (λ e. IsTrue (is_valid loops e)) es → length (entries_of sender es) ≡ 0
none_of loops sender [] above valid = refl
none_of loops sender (e ∷ es) above valid =
    let less = valid_sender loops e valid.0 in
    one_more e es sender ∙ ap (λ b. (cond b 1 0) + length (entries_of sender es))
    (unlike e.sender sender (omega arith))
    ∙ (let rest = none_of loops sender es above valid.1 in
    let none : 0 + length (entries_of sender es) ≡ 0 = omega arith in none)
  where
    unlike : (a b : ℕ) → a < b → (a == b) ≡ false
    unlike a b less = by (a == b) refl
      where
        by : (c : Bool) → (a == b) ≡ c → c ≡ false
        by true is = let same = eqb-true a b is in absurd (omega arith)
        by false is = refl

-- all entries are those of the three
all_of_three :
    (loops : ℕ) (es : List Entry) → AllByRecursion (λ e. IsTrue (is_valid loops e)) es →
    length es ≡ length (entries_of 0 es) + length (entries_of 1 es) + length (entries_of 2 es)
all_of_three loops [] valid = refl
all_of_three loops (e ∷ es) valid =
    let rest = all_of_three loops es valid.1 in
    let less = valid_sender loops e valid.0 in
    let zero_more = one_more e es 0 in
    let one_more_ = one_more e es 1 in
    let two_more = one_more e es 2 in
    let which : (cond (e.sender == 0) 1 0) + (cond (e.sender == 1) 1 0)
    + (cond (e.sender == 2) 1 0) ≡ 1 = just_one e.sender less in
    let longer : length (e ∷ es) ≡ suc (length es) = refl in
    omega arith
  where
    just_one : (n : ℕ) → n < 3 → (cond (n == 0) 1 0) + (cond (n == 1) 1 0) + (cond (n == 2) 1 0) ≡ 1
    just_one zero less = refl
    just_one (suc zero) less = refl
    just_one (suc (suc zero)) less = refl
    just_one (suc (suc (suc n))) less = absurd (omega arith)

-- a journal's entries have room in the greatest quota
pub journal_has_room : (loops : ℕ) (es : List Entry) → AreOfJournal loops es →
    HasRoomFor max_quota es
journal_has_room loops es are zero = are.few 0
journal_has_room loops es are (suc zero) = are.few 1
journal_has_room loops es are (suc (suc zero)) = are.few 2
journal_has_room loops es are (suc (suc (suc sender))) = let none =
    none_of loops (suc (suc (suc sender))) es (omega arith) are.valid in omega arith

-- and there are few of them
pub journal_is_short : (loops : ℕ) (es : List Entry) → AreOfJournal loops es → length es < 2 ^ 63
journal_is_short loops es are =
    let all = all_of_three loops es are.valid in
    let first = are.few 0 in
    let second = are.few 1 in
    let third = are.few 2 in
    omega arith
