-- The lines of bindings, and those that may stand one behind another.
use Rattle.std.proofs.Common.{ℕ, ◌+◌, ◌≤◌, List, [], ◌∷◌, ◌++◌, length, arith, length-append}
use Rattle.std.specs.Prelude.{IsTrue}
use Rattle.std.specs.List.{AllByRecursion}
use Rattle.sl_base.specs.Limits.{max_binding_lines}
use Rattle.text_lines.specs.FirstFaults.{MayAllFollow, IsText}
use Rattle.midi_bindings.specs.declared.binding.Binding.{Binding}
use Rattle.midi_bindings.specs.Lines.{is_binding}
use Rattle.midi_bindings.specs.Texts.{bindings_form, IsBindings}

abbrev AreValid : ℕ → List Binding → Type 0
AreValid loops bindings = AllByRecursion (λ binding. IsTrue (is_binding loops binding)) bindings

-- one more at the end
all_pushed : (loops : ℕ) (before : List Binding) (binding : Binding) → AreValid loops before →
    IsTrue (is_binding loops binding) → AreValid loops (before ++ binding ∷ [])
all_pushed loops [] binding are is = (is, tt)
all_pushed loops (b ∷ before) binding are is = (are.0, all_pushed loops before binding are.1 is)

-- those that may stand one behind another are valid
stand_valid : (loops : ℕ) (before bindings : List Binding) →
    MayAllFollow (bindings_form loops) before bindings → AreValid loops bindings
stand_valid loops before [] follow = tt
stand_valid loops before (b ∷ bindings) follow =
    (follow.0.valid, stand_valid loops (before ++ b ∷ []) bindings follow.1)

-- and few
stand_few : (loops : ℕ) (before bindings : List Binding) →
    MayAllFollow (bindings_form loops) before bindings → length before ≤ max_binding_lines →
    length before + length bindings ≤ max_binding_lines
stand_few loops before [] follow few = omega arith
stand_few loops before (b ∷ bindings) follow few =
    let rest = stand_few loops (before ++ b ∷ []) bindings follow.1
    (omega (arith, follow.0.room, length-append before (b ∷ []))) in
    omega (arith, rest, length-append before (b ∷ []))

-- a text of the form is that of bindings
pub text_is_bindings : (loops : ℕ) (bytes : List ℕ) (bindings : List Binding) →
    IsText (bindings_form loops) bytes bindings → IsBindings loops bytes bindings
text_is_bindings loops bytes bindings is = record {
  whole = record {
    few = omega (arith, stand_few loops [] bindings is.follow (omega arith));
    valid = stand_valid loops [] bindings is.follow;
  };
  spelled = is.spelled;
}

-- bindings may stand one behind another
stands : (loops : ℕ) (before bindings : List Binding) → AreValid loops bindings → length before
    + length bindings ≤ max_binding_lines → MayAllFollow (bindings_form loops) before bindings
stands loops before [] are few = tt
stands loops before (b ∷ bindings) are few = (
  record { room = omega arith; valid = are.0 },
  stands loops (before ++ b ∷ []) bindings are.1 (omega (arith, length-append before (b ∷ []))),
)

-- and their text is one of the form
pub bindings_are_text : (loops : ℕ) (bytes : List ℕ) (bindings : List Binding) →
    IsBindings loops bytes bindings → IsText (bindings_form loops) bytes bindings
bindings_are_text loops bytes bindings is = record {
  follow = stands loops [] bindings is.whole.valid (omega (arith, is.whole.few));
  due = tt;
  spelled = is.spelled;
}
