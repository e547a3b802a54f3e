-- Writing the lines of bindings.
use Rattle.std.proofs.Common.{◌≡◌, ℕ, ◌+◌, ◌<◌, ◌≤◌, List, [], ◌∷◌, ◌++◌, length, drop, sym, ap, ◌∙◌}
use Rattle.std.proofs.lemmas.List.{append_assoc}
use Rattle.std.proofs.Math.ListN.{drop_of_length-le}
use Rattle.text_lines.specs.Lines.{lines_then}
use Rattle.midi_bindings.specs.declared.binding.Binding.{Binding}
use Rattle.midi_bindings.specs.Lines.{binding_line}

-- one line more is written
pub line_written : (out line : List ℕ) (bindings : List Binding) (place : ℕ) (e : Binding)
    (whole rest : List ℕ) → place < length bindings →
    drop place bindings ≡ e ∷ drop (place + 1) bindings
    → line ≡ binding_line e ++ (10 ∷ []) → out ++ lines_then binding_line (drop place bindings) rest
    ≡ whole → (out ++ line) ++ lines_then binding_line (drop (place + 1) bindings) rest ≡ whole
line_written out line bindings place e whole rest there first is so_far =
    append_assoc out line (lines_then binding_line (drop (place + 1) bindings) rest)
    ∙ ap (λ (l : List ℕ). out ++ (l ++ lines_then binding_line (drop (place + 1) bindings) rest)) is
    ∙ ap (λ (l : List ℕ). out ++ l)
    (append_assoc (binding_line e) (10 ∷ [])
    (lines_then binding_line (drop (place + 1) bindings) rest))
    ∙ sym (ap (λ (es : List Binding). out ++ lines_then binding_line es rest) first)
    ∙ so_far

-- all lines are written
pub all_written : (out : List ℕ) (bindings : List Binding) (place : ℕ) (whole rest : List ℕ) →
    length bindings ≤ place → out ++ lines_then binding_line (drop place bindings) rest ≡ whole →
    out ++ rest ≡ whole
all_written out bindings place whole rest done so_far =
    sym (ap (λ (bs : List Binding). out ++ lines_then binding_line bs rest)
    (drop_of_length-le bindings done)) ∙ so_far
