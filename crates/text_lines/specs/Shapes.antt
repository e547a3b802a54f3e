-- The words of a line have shapes: a number, a whole number, or any word that isn't empty.
-- Words whose shapes are those of a form have the form, whatever they name.
-- "Texts" in docs/formats.md.
use Rattle.std.specs.Prelude.{ℕ, Bool, true, false, ◌&&◌, List, [], ◌∷◌}
use Rattle.text_lines.specs.Numerals.{is_numeral, is_integer}
use Rattle.text_lines.specs.declared.shape.Shape.{Shape}
use Rattle.text_lines.specs.declared.shape.Shape.TheVariants.{Number, Integer, Word}

-- the bytes aren't none
abbrev pub is_some : List ℕ → Bool
is_some [] = false
is_some (byte ∷ bytes) = true

-- the word has the shape
abbrev pub has_shape : Shape → List ℕ → Bool
has_shape Number word = is_numeral word
has_shape Integer word = is_integer word
has_shape Word word = is_some word

-- there are as many words as shapes, and each has its own
abbrev pub have_shapes : List Shape → List (List ℕ) → Bool
have_shapes [] [] = true
have_shapes [] (word ∷ words) = false
have_shapes (shape ∷ shapes) [] = false
have_shapes (shape ∷ shapes) (word ∷ words) = has_shape shape word && have_shapes shapes words
