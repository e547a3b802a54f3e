-- A word spells a number from the least to the most, or it spells none.
use Rattle.std.proofs.Common.{◌≡◌, ℕ, ◌≤◌, Bool, true, false, List, refl, ap, ◌∙◌, arith}
use Rattle.std.specs.Prelude.{◌&&◌, nat_le, Option, Some, None, if◌then◌else◌}
use Rattle.std.specs.Str.Parse.{digits_value}
use Rattle.std.proofs.lemmas.Bool.{leb-true, leb-false}
use Rattle.text_lines.specs.Numerals.{is_numeral, IsNumeralOf}
use Rattle.text_lines.proofs.NumeralLemmas.{has_form, value_is_spelled}
use Rattle.text_lines.proofs.IntegerLemmas.{numeral_is_one}
use Rattle.command_words.specs.Words.{number_between}

-- the value of a word that spells a number
value_of : (word : List ℕ) (n : ℕ) → IsNumeralOf word n → digits_value 10 word ≡ n
value_of word n spelled = numeral_is_one word (digits_value 10 word) n
    (value_is_spelled word (has_form word n spelled)) spelled

-- a value, where a word has the form
abbrev from_value : (least most n : ℕ) → Option ℕ
from_value least most n = if nat_le least n && nat_le n most then Some n else None

has_value : (least most n : ℕ) (word : List ℕ) → is_numeral word ≡ true →
    number_between least most word ≡ from_value least most (digits_value 10 word)
has_value least most n word form =
    ap (λ b. if b && nat_le least (digits_value 10 word) && nat_le (digits_value 10 word) most then
    Some (digits_value 10 word) else None) form

from_spelled : (least most n : ℕ) (word : List ℕ) → IsNumeralOf word n →
    number_between least most word ≡ from_value least most n
from_spelled least most n word spelled = has_value least most n word (has_form word n spelled)
    ∙ ap (from_value least most) (value_of word n spelled)

value_in : (least most n : ℕ) → least ≤ n → n ≤ most → from_value least most n ≡ Some n
value_in least most n some within = by (nat_le least n) (nat_le n most) refl refl
  where
    by : (a b : Bool) → nat_le least n ≡ a → nat_le n most ≡ b →
        (if a && b then Some n else None) ≡ Some n
    by true true first second = refl
    by true false first second = let over = leb-false n most second in absurd (omega arith)
    by false b first second = let over = leb-false least n first in absurd (omega arith)

value_out : (least most n : ℕ) → (least ≤ n → n ≤ most → ⊥) → from_value least most n ≡ None
value_out least most n out = by (nat_le least n) (nat_le n most) refl refl
  where
    by : (a b : Bool) → nat_le least n ≡ a → nat_le n most ≡ b →
        (if a && b then Some n else None) ≡ None
    by true true first second = absurd (out (leb-true least n first) (leb-true n most second))
    by true false first second = refl
    by false b first second = refl

-- a word that spells a number in the range
pub spelled_in : (least most n : ℕ) (word : List ℕ) → IsNumeralOf word n → least ≤ n → n ≤ most →
    number_between least most word ≡ Some n
spelled_in least most n word spelled some within =
    from_spelled least most n word spelled ∙ value_in least most n some within

-- one that spells a number out of it
pub spelled_out : (least most n : ℕ) (word : List ℕ) → IsNumeralOf word n →
    (least ≤ n → n ≤ most → ⊥) → number_between least most word ≡ None
spelled_out least most n word spelled out =
    from_spelled least most n word spelled ∙ value_out least most n out

-- and one that spells none
pub unspelled : (least most : ℕ) (word : List ℕ) → ((n : ℕ) → IsNumeralOf word n → ⊥) →
    number_between least most word ≡ None
unspelled least most word none = by (is_numeral word) refl
  where
    by : (a : Bool) → is_numeral word ≡ a →
        (if a && nat_le least (digits_value 10 word) && nat_le (digits_value 10 word) most then
        Some (digits_value 10 word) else None) ≡ None
    by true form = absurd (none (digits_value 10 word) (value_is_spelled word form))
    by false form = refl
