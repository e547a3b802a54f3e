-- The forms of lines.
use Rattle.std.proofs.Common.{◌≡◌, ◌&&◌, ◌<◌, ℕ, false, List, [], ◌∷◌, length, refl, ap, ◌∙◌, arith}
use Rattle.std.specs.List.{list_any}
use Rattle.std.proofs.Math.Bool.{and-false}
use Rattle.text_lines.specs.Shapes.{have_shapes}
use Rattle.text_lines.specs.declared.shape.Shape.TheVariants.{Number, Integer, Word}
use Rattle.text_lines.proofs.ShapeLemmas.{not_as_many}
use Rattle.journal_text.specs.JournalLines.{is_form, have_form, command_forms}

-- fewer than four words have no form
pub short_has_no_form : (words : List (List ℕ)) → length words < 4 → is_form words ≡ false
short_has_no_form [] short = refl
short_has_no_form (a ∷ []) short = refl
short_has_no_form (a ∷ b ∷ []) short = refl
short_has_no_form (a ∷ b ∷ c ∷ []) short = refl
short_has_no_form (a ∷ b ∷ c ∷ d ∷ words) short = absurd (omega arith)

-- more than three words behind the first are of no command
long_is_no_command : (word : List ℕ) (words : List (List ℕ)) → 3 < length words →
    list_any (have_form word words) command_forms ≡ false
long_is_no_command word words long =
    let two : have_shapes (Integer ∷ Word ∷ []) words ≡ false =
    not_as_many (Integer ∷ Word ∷ []) words (λ e. omega arith) in
    let three : have_shapes (Integer ∷ Word ∷ Integer ∷ []) words ≡ false =
    not_as_many (Integer ∷ Word ∷ Integer ∷ []) words (λ e. omega arith) in
    let global : have_shapes (Word ∷ Integer ∷ []) words ≡ false =
    not_as_many (Word ∷ Integer ∷ []) words (λ e. omega arith) in
    let one : have_shapes (Word ∷ []) words ≡ false =
    not_as_many (Word ∷ []) words (λ e. omega arith) in
    let release : have_shapes (Integer ∷ Number ∷ []) words ≡ false =
    not_as_many (Integer ∷ Number ∷ []) words (λ e. omega arith) in
    let none : have_shapes [] words ≡ false = not_as_many [] words (λ e. omega arith) in
    simp (two, three, global, one, release, none, and-false) refl

-- more than nine words have no form
pub long_has_no_form : (words : List (List ℕ)) → 9 < length words → is_form words ≡ false
long_has_no_form [] long = absurd (omega arith)
long_has_no_form (a ∷ []) long = absurd (omega arith)
long_has_no_form (a ∷ b ∷ []) long = absurd (omega arith)
long_has_no_form (a ∷ b ∷ c ∷ []) long = absurd (omega arith)
long_has_no_form (a ∷ b ∷ c ∷ d ∷ words) long =
    ap (λ x. have_shapes (Number ∷ Number ∷ Number ∷ []) (a ∷ b ∷ c ∷ []) && x)
    (long_is_no_command d words (omega arith))
    ∙ and-false (have_shapes (Number ∷ Number ∷ Number ∷ []) (a ∷ b ∷ c ∷ []))
