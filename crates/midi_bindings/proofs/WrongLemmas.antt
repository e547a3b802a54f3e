-- Bindings are a settled form: a line may stand or is wrong, with one kind of fault.
use Rattle.std.proofs.Common.{◌≡◌, ℕ, ◌≤◌, List, refl, sym, ap, ◌∙◌, arith}
use Rattle.sl_base.specs.Limits.{max_loops}
use Rattle.std.specs.Prelude.{IsTrue}
use Rattle.std.proofs.lemmas.Bool.{false≢true}
use Rattle.sl_commands.specs.declared.fault.TextKind.{TextKind}
use Rattle.sl_commands.specs.declared.fault.TextKind.TheVariants.{Header, Form, Value, Order, TooMany, Ending}
use Rattle.text_lines.specs.Lines.{Lacks, words_in}
use Rattle.text_lines.specs.FirstFaults.{IsSettled}
use Rattle.midi_bindings.specs.declared.binding.Binding.{Binding}
use Rattle.midi_bindings.specs.Lines.{binding_line, is_binding, is_form}
use Rattle.midi_bindings.specs.Texts.{HasNoBinding, MayStand, IsWrong, one_too_many, no_binding, bindings_form, bindings_header}
use Rattle.midi_bindings.proofs.BindingLemmas.{binding_has_words, line_whole, line_is_not_end, line_has_form}
use Rattle.midi_bindings.proofs.OneLemmas.{line_is_of_one}

-- a line that is a binding's has a form and is that binding's
binding_has_no_fault : (loops : ℕ) (line : List ℕ) (binding : Binding) (kind : TextKind) →
    loops ≤ max_loops → IsTrue (is_binding loops binding) → line ≡ binding_line binding →
    ¬ HasNoBinding loops line kind
binding_has_no_fault loops line binding Form few is same none =
    false≢true (sym none ∙ ap (λ l. is_form (words_in l)) same
    ∙ line_has_form binding (binding_has_words loops binding few is))
binding_has_no_fault loops line binding Value few is same none = none.1 binding is same
binding_has_no_fault loops line binding Header few is same none = none
binding_has_no_fault loops line binding Order few is same none = none
binding_has_no_fault loops line binding TooMany few is same none = none
binding_has_no_fault loops line binding Ending few is same none = none

-- without a binding there is one kind of fault
no_binding_is_one : (loops : ℕ) (line : List ℕ) (kind other : TextKind) →
    HasNoBinding loops line kind → HasNoBinding loops line other → kind ≡ other
no_binding_is_one loops line Form Form none none_too = refl
no_binding_is_one loops line Form Value none none_too = absurd (false≢true (sym none ∙ none_too.0))
no_binding_is_one loops line Value Form none none_too = absurd (false≢true (sym none_too ∙ none.0))
no_binding_is_one loops line Value Value none none_too = refl
no_binding_is_one loops line Header _ none none_too = absurd none
no_binding_is_one loops line Order _ none none_too = absurd none
no_binding_is_one loops line TooMany _ none none_too = absurd none
no_binding_is_one loops line Ending _ none none_too = absurd none
no_binding_is_one loops line Form Header none none_too = absurd none_too
no_binding_is_one loops line Form Order none none_too = absurd none_too
no_binding_is_one loops line Form TooMany none none_too = absurd none_too
no_binding_is_one loops line Form Ending none none_too = absurd none_too
no_binding_is_one loops line Value Header none none_too = absurd none_too
no_binding_is_one loops line Value Order none none_too = absurd none_too
no_binding_is_one loops line Value TooMany none none_too = absurd none_too
no_binding_is_one loops line Value Ending none none_too = absurd none_too

-- a line that may stand isn't wrong
stands_or_is_wrong : (loops : ℕ) (before : List Binding) (binding : Binding) (kind : TextKind) →
    loops ≤ max_loops → MayStand loops before binding →
    ¬ IsWrong loops before (binding_line binding) kind
stands_or_is_wrong loops before binding kind few may (one_too_many full is) =
    omega (arith, may.room)
stands_or_is_wrong loops before binding kind few may (no_binding room none) =
    binding_has_no_fault loops (binding_line binding) binding kind few may.valid refl none

-- a wrong line has one kind of fault
wrong_is_one : (loops : ℕ) (before : List Binding) (line : List ℕ) (kind other : TextKind) →
    IsWrong loops before line kind → IsWrong loops before line other → kind ≡ other
wrong_is_one loops before line kind other (one_too_many full is) (one_too_many full_too is_too) =
    is ∙ sym is_too
wrong_is_one loops before line kind other (one_too_many full is) (no_binding room none) =
    absurd (omega arith)
wrong_is_one loops before line kind other (no_binding room none) (one_too_many full is) =
    absurd (omega arith)
wrong_is_one loops before line kind other (no_binding room none) (no_binding room_too none_too) =
    no_binding_is_one loops line kind other none none_too

-- the header is whole
header_is_whole : Lacks 10 bindings_header
header_is_whole = (
  λ e. Prim.omega arith,
  (
    λ e. Prim.omega arith,
    (
      λ e. Prim.omega arith,
      (
        λ e. Prim.omega arith,
        (
          λ e. Prim.omega arith,
          (
            λ e. Prim.omega arith,
            (
              λ e. Prim.omega arith,
              (
                λ e. Prim.omega arith,
                (
                  λ e. Prim.omega arith,
                  (
                    λ e. Prim.omega arith,
                    (
                      λ e. Prim.omega arith,
                      (
                        λ e. Prim.omega arith,
                        (
                          λ e. Prim.omega arith,
                          (
                            λ e. Prim.omega arith,
                            (
                              λ e. Prim.omega arith,
                              (λ e. Prim.omega arith, (λ e. Prim.omega arith, tt)),
                            ),
                          ),
                        ),
                      ),
                    ),
                  ),
                ),
              ),
            ),
          ),
        ),
      ),
    ),
  ),
)

-- bindings are a settled form
pub bindings_are_settled : (loops : ℕ) → loops ≤ max_loops → IsSettled (bindings_form loops)
bindings_are_settled loops few = record {
  whole_header = header_is_whole;
  whole = λ before b may. line_whole b (binding_has_words loops b few may.valid);
  not_end = λ before b may. line_is_not_end b (binding_has_words loops b few may.valid);
  one = λ before b c may may_too same. line_is_of_one b c (binding_has_words loops b few may.valid)
      (binding_has_words loops c few may_too.valid) same;
  good = λ before b kind may. stands_or_is_wrong loops before b kind few may;
  one_kind = λ before line kind other wrong wrong_too.
      wrong_is_one loops before line kind other wrong wrong_too;
}
