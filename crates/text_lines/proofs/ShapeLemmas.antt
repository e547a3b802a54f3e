-- Words that are as many as shapes.
use Rattle.std.proofs.Common.{◌≡◌, ◌≢◌, ◌&&◌, suc, ℕ, true, false, List, [], ◌∷◌, length, refl, ap, ◌∙◌}
use Rattle.std.proofs.lemmas.Bool.{and_parts, false≢true}
use Rattle.std.proofs.Math.Bool.{and-false}
use Rattle.text_lines.specs.Shapes.{has_shape, have_shapes}
use Rattle.text_lines.specs.declared.shape.Shape.{Shape}

-- words that have the shapes are as many
pub as_many : (shapes : List Shape) (words : List (List ℕ)) → have_shapes shapes words ≡ true →
    length shapes ≡ length words
as_many [] [] have = refl
as_many [] (word ∷ words) have = absurd (false≢true have)
as_many (shape ∷ shapes) [] have = absurd (false≢true have)
as_many (shape ∷ shapes) (word ∷ words) have =
    ap (λ (n : ℕ). suc n)
    (as_many shapes words (and_parts (has_shape shape word) (have_shapes shapes words) have).1)

-- more or fewer words don't have the shapes
pub not_as_many : (shapes : List Shape) (words : List (List ℕ)) → length shapes ≢ length words →
    have_shapes shapes words ≡ false
not_as_many [] [] apart = absurd (apart refl)
not_as_many [] (word ∷ words) apart = refl
not_as_many (shape ∷ shapes) [] apart = refl
not_as_many (shape ∷ shapes) (word ∷ words) apart =
    ap (λ b. has_shape shape word && b)
    (not_as_many shapes words (λ e. apart (ap (λ (n : ℕ). suc n) e)))
    ∙ and-false (has_shape shape word)
