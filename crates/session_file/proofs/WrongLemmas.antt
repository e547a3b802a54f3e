-- Sessions are a settled form: a line may stand or is wrong, with one kind of fault.
use Rattle.std.proofs.Common.{◌≡◌, ℕ, ◌+◌, ◌<◌, List, length, refl, sym, ap, ◌∙◌, subst, arith}
use Rattle.std.specs.Prelude.{Option}
use Rattle.std.proofs.lemmas.Bool.{false≢true}
use Rattle.sl_commands.specs.declared.fault.TextFault.{TextFault}
use Rattle.sl_commands.specs.declared.fault.TextKind.{TextKind}
use Rattle.sl_commands.specs.declared.fault.TextKind.TheVariants.{Header, Form, Value, Order, TooMany, Ending}
use Rattle.text_lines.specs.Lines.{Lacks, IsCutAt, words_in}
use Rattle.text_lines.specs.FirstFaults.{IsSettled, IsReadUpTo, FirstFault}
use Rattle.text_lines.proofs.LoopLemmas.{wrong_read}
use Rattle.session_file.specs.declared.line.Setting.{Setting}
use Rattle.session_file.specs.declared.line.Line.{Line}
use Rattle.session_file.specs.SessionLines.{line_text, is_form, HasValues, IsDue, due_behind, loops_said, is_in_place}
use Rattle.session_file.specs.Sessions.{HasNoValues, MayStand, IsWrong, one_too_many, no_values, no_place, session_form, session_header, lines_due}
use Rattle.session_file.specs.Readings.{IsFirst}
use Rattle.session_file.proofs.LineLemmas.{line_is_of_one, line_text_is_whole, line_has_form, line_is_not_end, values_fit}

-- a line of values in their ranges has a form and is that of values
values_have_no_fault : (due : Option Setting) (loops : ℕ) (line : List ℕ) (l : Line)
    (kind : TextKind) → IsDue due l → HasValues loops l → line ≡ line_text l →
    ¬ HasNoValues due loops line kind
values_have_no_fault due loops line l Form is has same none =
    false≢true (sym none ∙ ap (λ t. is_form due (words_in t)) same
    ∙ line_has_form due loops l is has)
values_have_no_fault due loops line l Value is has same none = none.1 l is has same
values_have_no_fault due loops line l Header is has same none = none
values_have_no_fault due loops line l Order is has same none = none
values_have_no_fault due loops line l TooMany is has same none = none
values_have_no_fault due loops line l Ending is has same none = none

-- without values there is one kind of fault
none_is_one : (due : Option Setting) (loops : ℕ) (line : List ℕ) (kind other : TextKind) →
    HasNoValues due loops line kind → HasNoValues due loops line other → kind ≡ other
none_is_one due loops line Form Form none none_too = refl
none_is_one due loops line Form Value none none_too = absurd (false≢true (sym none ∙ none_too.0))
none_is_one due loops line Value Form none none_too = absurd (false≢true (sym none_too ∙ none.0))
none_is_one due loops line Value Value none none_too = refl
none_is_one due loops line Header _ none none_too = absurd none
none_is_one due loops line Order _ none none_too = absurd none
none_is_one due loops line TooMany _ none none_too = absurd none
none_is_one due loops line Ending _ none none_too = absurd none
none_is_one due loops line Form Header none none_too = absurd none_too
none_is_one due loops line Form Order none none_too = absurd none_too
none_is_one due loops line Form TooMany none none_too = absurd none_too
none_is_one due loops line Form Ending none none_too = absurd none_too
none_is_one due loops line Value Header none none_too = absurd none_too
none_is_one due loops line Value Order none none_too = absurd none_too
none_is_one due loops line Value TooMany none none_too = absurd none_too
none_is_one due loops line Value Ending none none_too = absurd none_too

-- a line that may stand isn't wrong
stands_or_is_wrong : (before : List Line) (l : Line) (kind : TextKind) → MayStand before l →
    ¬ IsWrong before (line_text l) kind
stands_or_is_wrong before l kind may (one_too_many full is) = omega (arith, may.room)
stands_or_is_wrong before l kind may (no_values room none) =
    values_have_no_fault (due_behind before) (loops_said before) (line_text l) l kind may.due
    may.values refl none
stands_or_is_wrong before l kind may (no_place room k due has same out is) =
    let one = line_is_of_one (due_behind before) k l due may.due
    (values_fit (loops_said before) k has) (values_fit (loops_said before) l may.values)
    (sym same) in
    false≢true (sym out ∙ ap (λ x. is_in_place (length before) x) one ∙ may.place)

-- a wrong line has one kind of fault
wrong_is_one : (before : List Line) (line : List ℕ) (kind other : TextKind) →
    IsWrong before line kind → IsWrong before line other → kind ≡ other
wrong_is_one before line kind other (one_too_many full is) (one_too_many full_too is_too) =
    is ∙ sym is_too
wrong_is_one before line kind other (one_too_many full is) (no_values room none) =
    absurd (omega arith)
wrong_is_one before line kind other (one_too_many full is)
    (no_place room k due has same out is_too) = absurd (omega arith)
wrong_is_one before line kind other (no_values room none) (one_too_many full is) =
    absurd (omega arith)
wrong_is_one before line kind other (no_values room none) (no_values room_too none_too) =
    none_is_one (due_behind before) (loops_said before) line kind other none none_too
wrong_is_one before line kind other (no_values room none)
    (no_place room_too k due has same out is) =
    absurd (values_have_no_fault (due_behind before) (loops_said before) line k kind due has same
    none)
wrong_is_one before line kind other (no_place room k due has same out is)
    (one_too_many full is_too) = absurd (omega arith)
wrong_is_one before line kind other (no_place room k due has same out is)
    (no_values room_too none) =
    absurd (values_have_no_fault (due_behind before) (loops_said before) line k other due has same
    none)
wrong_is_one before line kind other (no_place room k due has same out is)
    (no_place room_too k_too due_too has_too same_too out_too is_too) = is ∙ sym is_too

-- the header is whole
header_is_whole : Lacks 10 session_header
header_is_whole = (
  λ e. Prim.omega arith,
  (
    λ e. Prim.omega arith,
    (
      λ e. Prim.omega arith,
      (
        λ e. Prim.omega arith,
        (
          λ e. Prim.omega arith,
          (
            λ e. Prim.omega arith,
            (
              λ e. Prim.omega arith,
              (
                λ e. Prim.omega arith,
                (
                  λ e. Prim.omega arith,
                  (
                    λ e. Prim.omega arith,
                    (
                      λ e. Prim.omega arith,
                      (
                        λ e. Prim.omega arith,
                        (
                          λ e. Prim.omega arith,
                          (
                            λ e. Prim.omega arith,
                            (λ e. Prim.omega arith, (λ e. Prim.omega arith, tt)),
                          ),
                        ),
                      ),
                    ),
                  ),
                ),
              ),
            ),
          ),
        ),
      ),
    ),
  ),
)

-- sessions are a settled form
pub sessions_are_settled : IsSettled session_form
sessions_are_settled = record {
  whole_header = header_is_whole;
  whole = λ before l may. line_text_is_whole l (values_fit (loops_said before) l may.values);
  not_end = λ before l may. line_is_not_end (due_behind before) (loops_said before) l may.due
      may.values;
  one = λ before a b may may_too same. line_is_of_one (due_behind before) a b may.due may_too.due
      (values_fit (loops_said before) a may.values)
      (values_fit (loops_said before) b may_too.values) same;
  good = λ before l kind may. stands_or_is_wrong before l kind may;
  one_kind = λ before line kind other wrong wrong_too.
      wrong_is_one before line kind other wrong wrong_too;
}

-- the fault that is told is the first
pub first_at : (bytes : List ℕ) (line : ℕ) (kind : TextKind) (fault : TextFault) →
    fault.line ≡ line → fault.kind ≡ kind → FirstFault session_form bytes line kind →
    IsFirst bytes fault
first_at bytes line kind fault same same_kind first =
    subst (λ (n : ℕ). FirstFault session_form bytes n fault.kind) (sym same)
    (subst (λ k. FirstFault session_form bytes line k) (sym same_kind) first)

-- a wrong line where `end` isn't due is the first fault
pub wrong_first :
    (bytes : List ℕ) (lines : List Line) (rest line behind : List ℕ) (kind : TextKind)
    (fault : TextFault) → IsReadUpTo session_form bytes lines rest → IsCutAt 10 rest line behind
    → length lines < lines_due lines → IsWrong lines line kind → fault.line ≡ length lines + 2 →
    fault.kind ≡ kind → IsFirst bytes fault
wrong_first bytes lines rest line behind kind fault read cut room wrong same same_kind =
    first_at bytes (length lines + 2) kind fault same same_kind
    (wrong_read session_form bytes lines rest line behind kind read cut
    (λ due. absurd (omega arith)) wrong)
