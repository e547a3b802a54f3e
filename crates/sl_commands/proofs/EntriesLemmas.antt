-- What stamped entries are: the test goes entry by entry, the rule speaks of the whole list.
use Rattle.std.proofs.Common.{◌≡◌, ◌≢◌, ℕ, suc, ◌+◌, Bool, true, false, ◌&&◌, ◌==◌, cond, List, [], ◌∷◌, ◌++◌, length, map, refl, sym, ◌∙◌, ap, subst, arith, append_assoc, length-append}
use Rattle.std.proofs.Math.Bool.{and_assoc, and-true}
use Rattle.std.proofs.lemmas.Bool.{leb-true, le-leb, eqb-true, eq-eqb, ne_eqb}
use Rattle.std.proofs.lemmas.List.{append-nil}
use Rattle.std.proofs.lemmas.List.Elements.{filter-append}
use Rattle.sl_commands.specs.declared.entry.Entry.{Entry}
use Rattle.sl_commands.specs.declared.command.Command.{Command}
use Rattle.sl_commands.specs.Entries.{entries_of, command_in, commands_of, last_frame_from, last_frame, may_be_next, are_stamped_behind, are_stamped, FramesNeverFall, AreNumberedFrom, IsStamped}

-- both halves of a test that passed
both : (a b : Bool) → (a && b) ≡ true → (a ≡ true) × (b ≡ true)
both true b is = (refl, is)
both false b is = Prim.cc

-- the test goes through one list, then through the next
pub are_stamped_behind-append : (before xs ys : List Entry) →
    are_stamped_behind before
    (xs ++ ys) ≡ (are_stamped_behind before xs && are_stamped_behind (before ++ xs) ys)
are_stamped_behind-append before [] ys = ap (λ b. are_stamped_behind b ys) (sym (append-nil before))
are_stamped_behind-append before (x ∷ xs) ys =
    ap (λ b. may_be_next before x && b) (are_stamped_behind-append (before ++ x ∷ []) xs ys)
    ∙ ap (λ b. may_be_next before x
    && (are_stamped_behind (before ++ x ∷ []) xs && are_stamped_behind b ys))
    (append_assoc before (x ∷ []) xs)
    ∙ sym (and_assoc (may_be_next before x) (are_stamped_behind (before ++ x ∷ []) xs)
    (are_stamped_behind (before ++ x ∷ xs) ys))

-- entries are stamped with one more where they are without it and it may be next
pub are_stamped-push : (es : List Entry) (e : Entry) →
    are_stamped (es ++ e ∷ []) ≡ (are_stamped es && may_be_next es e)
are_stamped-push es e = are_stamped_behind-append [] es (e ∷ [])
    ∙ ap (λ b. are_stamped es && b) (and-true (may_be_next es e))

-- the last frame is that of the entry at the end
pub last_frame-push : (frame : ℕ) (es : List Entry) (e : Entry) →
    last_frame_from frame (es ++ e ∷ []) ≡ e.frame
last_frame-push frame [] e = refl
last_frame-push frame (x ∷ xs) e = last_frame-push x.frame xs e

-- the entries of a sender, with one more at the end
entries_of-push : (sender : ℕ) (before : List Entry) (e : Entry) →
    entries_of sender (before ++ e ∷ []) ≡ entries_of sender before
    ++ cond (e.sender == sender) (e ∷ []) []
entries_of-push sender before e = filter-append (λ x. x.sender == sender) before (e ∷ [])

-- so many entries has a sender, with one more
count-push : (sender : ℕ) (before : List Entry) (e : Entry) →
    length (entries_of sender (before ++ e ∷ [])) ≡ length (entries_of sender before)
    + length (cond (e.sender == sender) (e ∷ []) [])
count-push sender before e =
    ap length (entries_of-push sender before e)
    ∙ length-append (entries_of sender before) (cond (e.sender == sender) (e ∷ []) [])

-- stamped entries have frames that never fall
stamped_frames : (before es : List Entry) → are_stamped_behind before es ≡ true →
    FramesNeverFall (last_frame before) es
stamped_frames before [] is = tt
stamped_frames before (e ∷ es) is =
    let halves = both _ _ is in (
      leb-true _ _ ((both _ _ halves.0).0),
      subst (λ (f : ℕ). FramesNeverFall f es) (last_frame-push 0 before e)
          (stamped_frames (before ++ e ∷ []) es halves.1),
    )

-- an entry's number, and those behind it, where this sender is its own or another
numbers_step :
    (sender : ℕ) (before : List Entry) (e : Entry) (es : List Entry) (own : Bool) →
    (own ≡ true → e.seq ≡ length (entries_of sender before))
    → AreNumberedFrom (length (entries_of sender before) + length (cond own (e ∷ []) []))
    (entries_of sender es)
    → AreNumberedFrom (length (entries_of sender before))
    (cond own (e ∷ entries_of sender es) (entries_of sender es))
numbers_step sender before e es true number rest = (number refl, rest)
numbers_step sender before e es false number rest =
    let same : length (entries_of sender before) + 0 ≡ length (entries_of sender before) =
    omega arith in
    subst (λ (n : ℕ). AreNumberedFrom n (entries_of sender es)) same rest

-- stamped entries are numbered sender by sender
stamped_numbers : (before es : List Entry) (sender : ℕ) → are_stamped_behind before es ≡ true →
    AreNumberedFrom (length (entries_of sender before)) (entries_of sender es)
stamped_numbers before [] sender is = tt
stamped_numbers before (e ∷ es) sender is =
    let halves = both _ _ is in
    numbers_step sender before e es (e.sender == sender)
    (λ own. eqb-true _ _ ((both _ _ halves.0).1)
    ∙ ap (λ s. length (entries_of s before)) (eqb-true e.sender sender own))
    (subst (λ (n : ℕ). AreNumberedFrom n (entries_of sender es)) (count-push sender before e)
    (stamped_numbers (before ++ e ∷ []) es sender halves.1))

-- the other way for an entry's number
numbers_back :
    (sender : ℕ) (before : List Entry) (e : Entry) (es : List Entry) (own : Bool)
    → AreNumberedFrom (length (entries_of sender before))
    (cond own (e ∷ entries_of sender es) (entries_of sender es))
    → AreNumberedFrom (length (entries_of sender before) + length (cond own (e ∷ []) []))
    (entries_of sender es)
numbers_back sender before e es true numbers = numbers.1
numbers_back sender before e es false numbers =
    let same : length (entries_of sender before) ≡ length (entries_of sender before) + 0 =
    omega arith in
    subst (λ (n : ℕ). AreNumberedFrom n (entries_of sender es)) same numbers

-- an entry's own number
own_number :
    (before : List Entry) (e : Entry) (es : List Entry) (own : Bool) → own ≡ true
    → AreNumberedFrom (length (entries_of e.sender before))
    (cond own (e ∷ entries_of e.sender es) (entries_of e.sender es))
    → e.seq ≡ length (entries_of e.sender before)
own_number before e es true own numbers = numbers.0
own_number before e es false own numbers = Prim.cc

-- entries whose frames never fall and that are numbered sender by sender are stamped
stamped_from :
    (before es : List Entry) → FramesNeverFall (last_frame before) es
    → ((sender : ℕ) → AreNumberedFrom (length (entries_of sender before)) (entries_of sender es))
    → are_stamped_behind before es ≡ true
stamped_from before [] frames numbers = refl
stamped_from before (e ∷ es) frames numbers =
    let later : are_stamped_behind (before ++ e ∷ []) es ≡ true =
    stamped_from (before ++ e ∷ []) es
    (subst (λ (f : ℕ). FramesNeverFall f es) (sym (last_frame-push 0 before e)) frames.1)
    (λ s. subst (λ (n : ℕ). AreNumberedFrom n (entries_of s es)) (sym (count-push s before e))
    (numbers_back s before e es (e.sender == s) (numbers s)))
    in
    rw (
      le-leb (last_frame before) e.frame frames.0,
      eq-eqb e.seq (length (entries_of e.sender before))
          (own_number before e es (e.sender == e.sender) (eq-eqb e.sender e.sender refl)
          (numbers e.sender)),
      later,
    )
    refl

-- the test says what the rule says
pub stamped_is_in_order : (es : List Entry) → are_stamped es ≡ true → IsStamped es
stamped_is_in_order es is =
    record { frames = stamped_frames [] es is; numbers = λ s. stamped_numbers [] es s is }

-- and the rule what the test says
pub in_order_is_stamped : (es : List Entry) → IsStamped es → are_stamped es ≡ true
in_order_is_stamped es order = stamped_from [] es order.frames order.numbers

-- the commands of two lists
commands-append : (es fs : List Entry) →
    map command_in (es ++ fs) ≡ map command_in es ++ map command_in fs
commands-append [] fs = refl
commands-append (e ∷ es) fs = ap (λ cs. e.command ∷ cs) (commands-append es fs)

-- the command of an entry that is kept, and of one that isn't
own_command : (own : Bool) (e : Entry) → own ≡ true →
    map command_in (cond own (e ∷ []) []) ≡ e.command ∷ []
own_command own e is = rw is refl

no_command : (own : Bool) (e : Entry) → own ≡ false →
    map command_in (cond own (e ∷ []) []) ≡ []
no_command own e is = rw is refl

-- the commands of a sender, with one more entry
commands_of-push : (sender : ℕ) (es : List Entry) (e : Entry) →
    commands_of sender (es ++ e ∷ []) ≡ commands_of sender es
    ++ map command_in (cond (e.sender == sender) (e ∷ []) [])
commands_of-push sender es e =
    ap (map command_in) (entries_of-push sender es e)
    ∙ commands-append (entries_of sender es) (cond (e.sender == sender) (e ∷ []) [])

-- with one of its own
pub commands_of-own : (sender : ℕ) (es : List Entry) (e : Entry) → e.sender ≡ sender →
    commands_of sender (es ++ e ∷ []) ≡ commands_of sender es ++ e.command ∷ []
commands_of-own sender es e is =
    commands_of-push sender es e
    ∙ ap (λ cs. commands_of sender es ++ cs)
    (own_command (e.sender == sender) e (eq-eqb e.sender sender is))

-- with one of another
pub commands_of-other : (sender : ℕ) (es : List Entry) (e : Entry) → e.sender ≢ sender →
    commands_of sender (es ++ e ∷ []) ≡ commands_of sender es
commands_of-other sender es e is =
    commands_of-push sender es e
    ∙ ap (λ cs. commands_of sender es ++ cs)
    (no_command (e.sender == sender) e (ne_eqb e.sender sender is))
    ∙ append-nil (commands_of sender es)

-- as many commands as entries
commands-count : (es : List Entry) → length (map command_in es) ≡ length es
commands-count [] = refl
commands-count (e ∷ es) = ap suc (commands-count es)

pub length-commands_of : (sender : ℕ) (es : List Entry) →
    length (commands_of sender es) ≡ length (entries_of sender es)
length-commands_of sender es = commands-count (entries_of sender es)
