-- Numbers and their one spelling.
use Rattle.std.proofs.Common.{◌≡◌, ◌&&◌, ℕ, suc, ◌<◌, ◌≤◌, ◌^◌, List, [], ◌∷◌, length, get_or, true, false, not, eqb, OkIff, refl, sym, ap, ◌∙◌, subst, arith, inl, inr, leb}
use Rattle.std.specs.Prelude.{Result, Ok, Err}
use Rattle.std.specs.Str.{all_ascii_digits, IsUtf8}
use Rattle.std.specs.Str.Parse.{digits_value, ParsesUnsigned}
use Rattle.std.specs.Fmt.{decimal}
use Rattle.std.proofs.lemmas.Bool.{and_parts, and_from, not-true, eqb-false, ne_eqb, false≢true, cases_eq, le-leb, leb-true}
use Rattle.std.proofs.lemmas.Fmt.{decimal-digits_value, digits_decimal, decimal_nonempty, decimal_digit, first_decimal, IsAscii-decimal, length-decimal-le}
use Rattle.std.proofs.lemmas.Str.{IsUtf8-from_ascii}
use Rattle.std.proofs.lemmas.Str.Parse.{IsNumeralModel, numerals_by_value, tells_all_ascii_digits, parse_digits, digits_value_short}
use Rattle.text_lines.specs.Numerals.{begins_plainly, is_numeral, IsNumeralOf}

-- the texts of digits and their values
pub own : IsNumeralModel (λ ds. all_ascii_digits ds ≡ true) (digits_value 10)
own = numerals_by_value (λ ds. all_ascii_digits ds ≡ true) tells_all_ascii_digits

-- a number of 19 digits has 64 bits
pub within_64 : (number : ℕ) → number < 10 ^ 19 → number < 2 ^ 64
within_64 number within = omega arith

-- what the spelling of a number looks like
pub record IsPlain (bytes : List ℕ) : Type 0 where
  pub some : 0 < length bytes
  pub plain : get_or bytes 0 0 ≡ 48 → length bytes ≡ 1
  pub digits : all_ascii_digits bytes ≡ true
  pub short : length bytes ≤ 19

-- bytes that begin plainly
pub plain_start : (bytes : List ℕ) → 0 < length bytes → (get_or bytes 0 0 ≡ 48 → length bytes ≡ 1) →
    begins_plainly bytes ≡ true
plain_start [] some alone = absurd (omega arith)
plain_start (byte ∷ []) some alone = refl
plain_start (byte ∷ next ∷ bytes) some alone =
    ap not (ne_eqb byte 48 (λ e. let one : suc (suc (length bytes)) ≡ 1 = alone e in omega arith))

-- and what they are
pub start_is_plain : (bytes : List ℕ) → begins_plainly bytes ≡ true → (0 < length bytes)
    × (get_or bytes 0 0 ≡ 48 → length bytes ≡ 1)
start_is_plain [] plain = absurd (false≢true plain)
start_is_plain (byte ∷ []) plain = (omega arith, λ _. refl)
start_is_plain (byte ∷ next ∷ bytes) plain =
    (omega arith, λ e. absurd (eqb-false byte 48 (not-true (eqb byte 48) plain) e))

-- bytes of the form of a number look like one
pub form_is_plain : (bytes : List ℕ) → is_numeral bytes ≡ true → IsPlain bytes
form_is_plain bytes form =
    let parts = and_parts (begins_plainly bytes && all_ascii_digits bytes) (leb (length bytes) 19)
    form in
    let front = and_parts (begins_plainly bytes) (all_ascii_digits bytes) parts.0 in
    let start = start_is_plain bytes front.0 in
    record {
      some = start.0;
      plain = start.1;
      digits = front.1;
      short =
          leb-true (length bytes) 19 parts.1;
    }

-- and what looks like one has the form
pub plain_has_form : (bytes : List ℕ) → IsPlain bytes → is_numeral bytes ≡ true
plain_has_form bytes is =
    and_from (begins_plainly bytes && all_ascii_digits bytes) (leb (length bytes) 19)
    (and_from (begins_plainly bytes) (all_ascii_digits bytes) (plain_start bytes is.some is.plain)
    is.digits)
    (le-leb (length bytes) 19 is.short)

-- the spelling of a number looks like one
pub decimal_is_plain : (number : ℕ) → number < 10 ^ 19 → IsPlain (decimal number)
decimal_is_plain number within =
    let fits = within_64 number within in
    record {
      some = decimal_nonempty number fits;
      plain = elim (cases_eq number 0) as (λ _. get_or (decimal number) 0 0 ≡ 48 →
          length (decimal number) ≡ 1) [
            | inl e ↦ λ _. subst (λ n. length (decimal n) ≡ 1) (sym e)
                (ap length (decimal_digit 0 (omega arith)))
            | inr apart ↦ λ e. absurd (omega (arith, first_decimal number (omega arith) fits))
          ];
      digits = digits_decimal own number fits;
      short = length-decimal-le 19 number (omega arith) within fits;
    }

-- the spelling of a number has the form of one
pub decimal_has_form : (number : ℕ) → number < 10 ^ 19 → is_numeral (decimal number) ≡ true
decimal_has_form number within = plain_has_form (decimal number) (decimal_is_plain number within)

-- the same of bytes that are the spelling
pub has_form : (bytes : List ℕ) (number : ℕ) → IsNumeralOf bytes number → is_numeral bytes ≡ true
has_form bytes number is =
    subst (λ bs. is_numeral bs ≡ true) (sym is.spelled) (decimal_has_form number is.within)

-- bytes without that form spell no number
pub no_form : (bytes : List ℕ) → is_numeral bytes ≡ false → (number : ℕ) →
    IsNumeralOf bytes number → ⊥
no_form bytes lacks number is = false≢true (sym lacks ∙ has_form bytes number is)

-- what isn't text spells no number
pub no_text : (bytes : List ℕ) → (IsUtf8 bytes → ⊥) → (number : ℕ) → IsNumeralOf bytes number → ⊥
no_text bytes lacks number is =
    lacks (subst IsUtf8 (sym is.spelled)
    (IsUtf8-from_ascii (decimal number) (IsAscii-decimal number (within_64 number is.within))))

-- the digits of bytes of the form spell their value
pub value_is_spelled : (bytes : List ℕ) → is_numeral bytes ≡ true →
    IsNumeralOf bytes (digits_value 10 bytes)
value_is_spelled bytes form =
    let is = form_is_plain bytes form in
    let within : digits_value 10 bytes < 10 ^ 19 =
    digits_value_short own bytes 19 is.digits is.short in
    record {
      within = within;
      spelled =
          sym (decimal-digits_value own bytes is.digits is.some is.plain
          (within_64 (digits_value 10 bytes) within));
    }

-- bytes of the form are the spelling of a number
pub is_spelled : (bytes : List ℕ) → is_numeral bytes ≡ true → (number : ℕ)
    × IsNumeralOf bytes number
is_spelled bytes form = (digits_value 10 bytes, value_is_spelled bytes form)

-- what parsing says of bytes of that form
parsed : {E : Type 0} (bytes : List ℕ) (r : Result ℕ E) → is_numeral bytes ≡ true →
    ParsesUnsigned 64 10 bytes r →
    OkIff r ((0 < length bytes) × (digits_value 10 bytes < 2 ^ 64)) (digits_value 10 bytes)
parsed bytes r form parses = parse_digits own 64 bytes r parses (form_is_plain bytes form).digits

-- the number that is parsed is the one that is spelled
pub parsed_is_spelled : {E : Type 0} (bytes text : List ℕ) (r : Result ℕ E) (number : ℕ) →
    is_numeral bytes ≡ true → text ≡ bytes → ParsesUnsigned 64 10 text r → r ≡ Ok number →
    IsNumeralOf bytes number
parsed_is_spelled {E} bytes text r number form same parses gives =
    let value : ℕ = digits_value 10 bytes in
    let is : OkIff {E = E} (Ok number) ((0 < length bytes) × (value < 2 ^ 64)) value =
    subst (λ (q : Result ℕ E). OkIff q ((0 < length bytes) × (value < 2 ^ 64)) value) gives
    (parsed bytes r form (subst (λ t. ParsesUnsigned 64 10 t r) same parses)) in
    subst (λ n. IsNumeralOf bytes n) (sym is.1) (value_is_spelled bytes form)

-- bytes of that form are parsed
pub none_parsed : {E : Type 0} (bytes text : List ℕ) (fault : E) → is_numeral bytes ≡ true →
    text ≡ bytes → ParsesUnsigned 64 10 text (Err fault) → ⊥
none_parsed bytes text fault form same parses =
    parsed bytes (Err fault) form (subst (λ t. ParsesUnsigned 64 10 t (Err fault)) same parses) (
      (form_is_plain bytes form).some,
      within_64 (digits_value 10 bytes) ((value_is_spelled bytes form).within),
    )
