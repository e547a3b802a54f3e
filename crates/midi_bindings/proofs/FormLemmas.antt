-- The forms of lines.
use Rattle.std.proofs.Common.{◌≡◌, ◌<◌, ℕ, false, List, [], ◌∷◌, length, refl, arith}
use Rattle.std.proofs.Math.Bool.{and-false}
use Rattle.text_lines.specs.Shapes.{have_shapes}
use Rattle.text_lines.specs.declared.shape.Shape.TheVariants.{Integer, Word}
use Rattle.text_lines.proofs.ShapeLemmas.{not_as_many}
use Rattle.midi_bindings.specs.Lines.{is_form}

-- fewer than four words have no form
pub short_has_no_form : (words : List (List ℕ)) → length words < 4 → is_form words ≡ false
short_has_no_form [] short = refl
short_has_no_form (a ∷ []) short = refl
short_has_no_form (a ∷ b ∷ []) short = refl
short_has_no_form (a ∷ b ∷ c ∷ []) short = refl
short_has_no_form (a ∷ b ∷ c ∷ d ∷ words) short = absurd (omega arith)

-- more than nine words have no form
pub long_has_no_form : (words : List (List ℕ)) → 9 < length words → is_form words ≡ false
long_has_no_form [] long = absurd (omega arith)
long_has_no_form (a ∷ []) long = absurd (omega arith)
long_has_no_form (a ∷ b ∷ []) long = absurd (omega arith)
long_has_no_form (a ∷ b ∷ c ∷ []) long = absurd (omega arith)
long_has_no_form (a ∷ b ∷ c ∷ d ∷ words) long =
    let give : have_shapes (Integer ∷ Word ∷ []) words ≡ false =
    not_as_many (Integer ∷ Word ∷ []) words (λ e. omega arith) in
    let sweep : have_shapes (Integer ∷ Word ∷ Integer ∷ Integer ∷ []) words ≡ false =
    not_as_many (Integer ∷ Word ∷ Integer ∷ Integer ∷ []) words (λ e. omega arith) in
    simp (give, sweep, and-false) refl
