-- Journals are a settled form: a line may stand or is wrong, with one kind of fault.
use Rattle.std.proofs.Common.{◌≡◌, ℕ, ◌<◌, ◌≤◌, List, length, refl, sym, ap, ◌∙◌, subst, arith}
use Rattle.std.specs.Prelude.{IsTrue}
use Rattle.std.proofs.lemmas.Bool.{false≢true}
use Rattle.sl_commands.specs.declared.entry.Entry.{Entry}
use Rattle.sl_commands.specs.declared.fault.TextKind.{TextKind}
use Rattle.sl_commands.specs.declared.fault.TextKind.TheVariants.{Header, Form, Value, Order, TooMany, Ending}
use Rattle.sl_commands.specs.Entries.{may_be_next, entries_of}
use Rattle.text_lines.specs.Lines.{Lacks, words_in}
use Rattle.text_lines.specs.FirstFaults.{IsSettled}
use Rattle.journal_text.specs.JournalLines.{entry_line, is_form}
use Rattle.journal_text.specs.Journals.{HasLine, HasNoEntry, CannotFollow, MayStand, IsWrong, one_too_many, no_entry, no_place, journal_form, journal_header, most_of}
use Rattle.journal_text.proofs.EntryLemmas.{line_has_words, line_is_of_one, entry_line_is_whole, entry_line_is_not_end, entry_line_has_form}

-- a line that is an entry's has a form and is that entry's
pub entry_has_no_fault : (loops : ℕ) (line : List ℕ) (e : Entry) (kind : TextKind) → loops ≤ 16 →
    HasLine loops e → line ≡ entry_line e → ¬ HasNoEntry loops line kind
entry_has_no_fault loops line e Form few has same none =
    false≢true (sym none ∙ ap (λ l. is_form (words_in l)) same
    ∙ entry_line_has_form e (line_has_words loops e few has))
entry_has_no_fault loops line e Value few has same none = none.1 e has same
entry_has_no_fault loops line e Header few has same none = none
entry_has_no_fault loops line e Order few has same none = none
entry_has_no_fault loops line e TooMany few has same none = none
entry_has_no_fault loops line e Ending few has same none = none

-- a line is that of one entry
pub one_entry : (loops : ℕ) (line : List ℕ) (e f : Entry) → loops ≤ 16 → HasLine loops e →
    HasLine loops f → line ≡ entry_line e → line ≡ entry_line f → e ≡ f
one_entry loops line e f few has has_too same same_too =
    line_is_of_one e f (line_has_words loops e few has) (line_has_words loops f few has_too)
    (sym same ∙ same_too)

-- without an entry there is one kind of fault
no_entry_is_one : (loops : ℕ) (line : List ℕ) (kind other : TextKind) → HasNoEntry loops line kind →
    HasNoEntry loops line other → kind ≡ other
no_entry_is_one loops line Form Form none none_too = refl
no_entry_is_one loops line Form Value none none_too = absurd (false≢true (sym none ∙ none_too.0))
no_entry_is_one loops line Value Form none none_too = absurd (false≢true (sym none_too ∙ none.0))
no_entry_is_one loops line Value Value none none_too = refl
no_entry_is_one loops line Header _ none none_too = absurd none
no_entry_is_one loops line Order _ none none_too = absurd none
no_entry_is_one loops line TooMany _ none none_too = absurd none
no_entry_is_one loops line Ending _ none none_too = absurd none
no_entry_is_one loops line Form Header none none_too = absurd none_too
no_entry_is_one loops line Form Order none none_too = absurd none_too
no_entry_is_one loops line Form TooMany none none_too = absurd none_too
no_entry_is_one loops line Form Ending none none_too = absurd none_too
no_entry_is_one loops line Value Header none none_too = absurd none_too
no_entry_is_one loops line Value Order none none_too = absurd none_too
no_entry_is_one loops line Value TooMany none none_too = absurd none_too
no_entry_is_one loops line Value Ending none none_too = absurd none_too

-- an entry that may not follow has one kind of fault
cannot_is_one : (before : List Entry) (e : Entry) (kind other : TextKind) →
    CannotFollow before e kind → CannotFollow before e other → kind ≡ other
cannot_is_one before e Order Order cannot cannot_too = refl
cannot_is_one before e Order TooMany cannot cannot_too =
    absurd (false≢true (sym cannot ∙ cannot_too.0))
cannot_is_one before e TooMany Order cannot cannot_too =
    absurd (false≢true (sym cannot_too ∙ cannot.0))
cannot_is_one before e TooMany TooMany cannot cannot_too = refl
cannot_is_one before e Header _ cannot cannot_too = absurd cannot
cannot_is_one before e Form _ cannot cannot_too = absurd cannot
cannot_is_one before e Value _ cannot cannot_too = absurd cannot
cannot_is_one before e Ending _ cannot cannot_too = absurd cannot
cannot_is_one before e Order Header cannot cannot_too = absurd cannot_too
cannot_is_one before e Order Form cannot cannot_too = absurd cannot_too
cannot_is_one before e Order Value cannot cannot_too = absurd cannot_too
cannot_is_one before e Order Ending cannot cannot_too = absurd cannot_too
cannot_is_one before e TooMany Header cannot cannot_too = absurd cannot_too
cannot_is_one before e TooMany Form cannot cannot_too = absurd cannot_too
cannot_is_one before e TooMany Value cannot cannot_too = absurd cannot_too
cannot_is_one before e TooMany Ending cannot cannot_too = absurd cannot_too

-- an entry that may follow hasn't such a fault
can_and_cannot : (before : List Entry) (e : Entry) (kind : TextKind) →
    IsTrue (may_be_next before e) → length (entries_of e.sender before) < most_of e.sender →
    ¬ CannotFollow before e kind
can_and_cannot before e Order next few cannot = false≢true (sym cannot ∙ next)
can_and_cannot before e TooMany next few cannot = omega (arith, cannot.1)
can_and_cannot before e Header next few cannot = cannot
can_and_cannot before e Form next few cannot = cannot
can_and_cannot before e Value next few cannot = cannot
can_and_cannot before e Ending next few cannot = cannot

-- a line that may stand isn't wrong
stands_or_is_wrong : (loops : ℕ) (before : List Entry) (e : Entry) (kind : TextKind) → loops ≤ 16 →
    MayStand loops before e → ¬ IsWrong loops before (entry_line e) kind
stands_or_is_wrong loops before e kind few may (one_too_many full is) = omega (arith, may.room)
stands_or_is_wrong loops before e kind few may (no_entry room none) =
    entry_has_no_fault loops (entry_line e) e kind few may.line refl none
stands_or_is_wrong loops before e kind few may (no_place room f has same cannot) =
    let one = one_entry loops (entry_line e) f e few has may.line same refl in
    can_and_cannot before e kind may.next may.few
    (subst (λ g. CannotFollow before g kind) one cannot)

-- a wrong line has one kind of fault
wrong_is_one : (loops : ℕ) (before : List Entry) (line : List ℕ) (kind other : TextKind) →
    loops ≤ 16 → IsWrong loops before line kind → IsWrong loops before line other → kind ≡ other
wrong_is_one loops before line kind other few (one_too_many full is)
    (one_too_many full_too is_too) = is ∙ sym is_too
wrong_is_one loops before line kind other few (one_too_many full is) (no_entry room none) =
    absurd (omega arith)
wrong_is_one loops before line kind other few (one_too_many full is)
    (no_place room f has same cannot) = absurd (omega arith)
wrong_is_one loops before line kind other few (no_entry room none) (one_too_many full is) =
    absurd (omega arith)
wrong_is_one loops before line kind other few (no_entry room none) (no_entry room_too none_too) =
    no_entry_is_one loops line kind other none none_too
wrong_is_one loops before line kind other few (no_entry room none)
    (no_place room_too f has same cannot) =
    absurd (entry_has_no_fault loops line f kind few has same none)
wrong_is_one loops before line kind other few (no_place room e has same cannot)
    (one_too_many full is) = absurd (omega arith)
wrong_is_one loops before line kind other few (no_place room e has same cannot)
    (no_entry room_too none) = absurd (entry_has_no_fault loops line e other few has same none)
wrong_is_one loops before line kind other few (no_place room e has same cannot)
    (no_place room_too f has_too same_too cannot_too) =
    let one = one_entry loops line f e few has_too has same_too same in
    cannot_is_one before e kind other cannot
    (subst (λ g. CannotFollow before g other) one cannot_too)

-- the header is whole
header_is_whole : Lacks 10 journal_header
header_is_whole = (
  λ e. Prim.omega arith,
  (
    λ e. Prim.omega arith,
    (
      λ e. Prim.omega arith,
      (
        λ e. Prim.omega arith,
        (
          λ e. Prim.omega arith,
          (
            λ e. Prim.omega arith,
            (
              λ e. Prim.omega arith,
              (
                λ e. Prim.omega arith,
                (
                  λ e. Prim.omega arith,
                  (
                    λ e. Prim.omega arith,
                    (
                      λ e. Prim.omega arith,
                      (
                        λ e. Prim.omega arith,
                        (
                          λ e. Prim.omega arith,
                          (
                            λ e. Prim.omega arith,
                            (λ e. Prim.omega arith, (λ e. Prim.omega arith, tt)),
                          ),
                        ),
                      ),
                    ),
                  ),
                ),
              ),
            ),
          ),
        ),
      ),
    ),
  ),
)

-- journals are a settled form
pub journals_are_settled : (loops : ℕ) → loops ≤ 16 → IsSettled (journal_form loops)
journals_are_settled loops few = record {
  whole_header = header_is_whole;
  whole = λ before e may. entry_line_is_whole e (line_has_words loops e few may.line);
  not_end = λ before e may. entry_line_is_not_end e (line_has_words loops e few may.line);
  one = λ before e f may may_too same. one_entry loops (entry_line e) e f few may.line may_too.line
      refl same;
  good = λ before e kind may. stands_or_is_wrong loops before e kind few may;
  one_kind = λ before line kind other wrong wrong_too.
      wrong_is_one loops before line kind other few wrong wrong_too;
}
