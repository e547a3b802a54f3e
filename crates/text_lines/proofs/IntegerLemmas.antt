-- Whole numbers and their one spelling.
use Rattle.std.proofs.Common.{◌≡◌, ℕ, suc, ◌<◌, ◌≤◌, ◌∷◌, List, true, sym, ◌∙◌, subst, arith}
use Rattle.std.specs.Prelude.{ℤ, pos, negsuc, ◌≤ℤ◌, Option, Some, None, IfNone}
use Rattle.std.specs.Fmt.{decimal}
use Rattle.std.specs.Str.{all_ascii_digits}
use Rattle.std.specs.Char.{is_ascii_digit}
use Rattle.std.proofs.lemmas.Bool.{and_parts, false≢true}
use Rattle.std.proofs.lemmas.Fmt.{decimal_injective}
use Rattle.std.proofs.lemmas.Int.{ints}
use Rattle.text_lines.specs.Numerals.{IsNumeralOf, IsIntegerOf}
use Rattle.text_lines.proofs.NumeralLemmas.{within_64, decimal_is_plain}

-- one spelling is of one number
pub numeral_is_one : (bytes : List ℕ) (number other : ℕ) → IsNumeralOf bytes number →
    IsNumeralOf bytes other → number ≡ other
numeral_is_one bytes number other is is_too =
    decimal_injective number other (within_64 number is.within) (within_64 other is_too.within)
    (sym is.spelled ∙ is_too.spelled)

-- the spelling of a number that isn't below 0
pub at_least_zero_is : (bytes : List ℕ) (number : ℕ) → IsIntegerOf bytes (pos number) →
    IsNumeralOf bytes number
at_least_zero_is bytes number is = record { within = is.within; spelled = is.spelled }

-- the digits of a number below 0
pub below_zero_is : (digits : List ℕ) (number : ℕ) → IsIntegerOf (45 ∷ digits) (negsuc number) →
    IsNumeralOf digits (suc number)
below_zero_is digits number is =
    record {
      within = is.within;
      spelled =
          (let e : 45 ∷ digits ≡ 45 ∷ decimal (suc number) = is.spelled in Prim.cc);
    }

-- a spelling that is no other's
pub too_great : (bytes : List ℕ) (size number : ℕ) → IsNumeralOf bytes size → 2147483647 < size →
    number ≤ 2147483647 → IsIntegerOf bytes (pos number) → ⊥
too_great bytes size number is great small other =
    let same = numeral_is_one bytes size number is (at_least_zero_is bytes number other) in
    omega arith

pub too_small : (digits : List ℕ) (size number : ℕ) → IsNumeralOf digits size →
    (1 ≤ size → size ≤ 2147483648 → ⊥) → number ≤ 2147483647 →
    IsIntegerOf (45 ∷ digits) (negsuc number) → ⊥
too_small digits size number is apart small other =
    let same : size ≡ suc number =
    numeral_is_one digits size (suc number) is (below_zero_is digits number other) in
    apart (omega arith) (omega arith)

-- the first of digits
first_digit : (bytes : List ℕ) (byte : ℕ) (rest : List ℕ) → all_ascii_digits bytes ≡ true →
    bytes ≡ byte ∷ rest → is_ascii_digit byte ≡ true
first_digit bytes byte rest digits is =
    (and_parts (is_ascii_digit byte) (all_ascii_digits rest)
    (subst (λ bs. all_ascii_digits bs ≡ true) is digits)).0

-- a number that isn't below 0 doesn't begin with `-`
pub no_minus : (digits : List ℕ) (number : ℕ) → IsIntegerOf (45 ∷ digits) (pos number) → ⊥
no_minus digits number is =
    let first : is_ascii_digit 45 ≡ true = first_digit (decimal number) 45 digits
    (decimal_is_plain number is.within).digits (sym is.spelled) in false≢true first

-- behind `-` no number is found, where none below 0 is
none_of :
    (digits bytes : List ℕ) → bytes ≡ 45 ∷ digits →
    ((number : ℕ) → number ≤ 2147483647 → ¬ IsIntegerOf (45 ∷ digits) (negsuc number))
    → (number : ℤ) → negsuc 2147483647 ≤ℤ number → number ≤ℤ pos 2147483647 →
    ¬ IsIntegerOf bytes number
none_of digits bytes minus none (pos number) low high =
    λ is. no_minus digits number (subst (λ bs. IsIntegerOf bs (pos number)) minus is)
none_of digits bytes minus none (negsuc number) low high = λ is.
    none number (omega (arith, ints, low)) (subst (λ bs. IsIntegerOf bs (negsuc number)) minus is)

-- what isn't found below 0 isn't found behind `-`
pub none_behind_minus :
    (bytes digits : List ℕ) (answer : Option ℤ) → bytes ≡ 45 ∷ digits
    → IfNone answer ((number : ℕ) → number ≤ 2147483647 →
    ¬ IsIntegerOf (45 ∷ digits) (negsuc number))
    → IfNone answer ((number : ℤ) → negsuc 2147483647 ≤ℤ number → number ≤ℤ pos 2147483647 →
    ¬ IsIntegerOf bytes number)
none_behind_minus bytes digits (Some answer) minus none = tt
none_behind_minus bytes digits None minus none = λ number. none_of digits bytes minus none number
