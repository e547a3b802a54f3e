-- Words that stand whole in a line, and the lines of words.
use Rattle.std.proofs.Common.{◌≡◌, ◌≢◌, zero, ◌&&◌, ◌||◌, ℕ, suc, ◌<◌, ◌≤◌, ◌^◌, List, [], ◌∷◌, ◌++◌, length, Bool, true, false, refl, sym, ap, ◌∙◌, subst, arith, leb}
use Rattle.std.specs.Prelude.{ℤ, pos, negsuc, unsigned_abs, ◌==◌, not, IsTrue}
use Rattle.std.specs.List.{AllByRecursion}
use Rattle.std.specs.Str.{all_ascii_digits, bytes_eq}
use Rattle.std.specs.Char.{is_ascii_digit}
use Rattle.std.specs.Fmt.{decimal, signed_decimal}
use Rattle.std.proofs.lemmas.Bool.{and_parts, and_from, leb-true, le-leb, false≢true, eqb-true}
use Rattle.std.proofs.lemmas.Fmt.{decimal_injective, decimal_digit}
use Rattle.std.proofs.lemmas.Bool.Decides.{nat_tests}
use Rattle.std.proofs.Math.Bool.{or-true}
use Rattle.std.proofs.lemmas.Slice.Eq.{bytes_eq-Decides}
use Rattle.sl_base.specs.Names.{is_name_byte, are_name_bytes, begins_well, is_name}
use Rattle.text_lines.specs.Lines.{Lacks, words_in, line_of, IsWord}
use Rattle.text_lines.specs.Numerals.{is_numeral, is_below_zero, is_integer, IsNumeralOf, IsIntegerOf}
use Rattle.text_lines.specs.Shapes.{is_some}
use Rattle.text_lines.proofs.NumeralLemmas.{decimal_is_plain, decimal_has_form, within_64, is_spelled}
use Rattle.text_lines.proofs.IntegerLemmas.{no_minus}
use Rattle.text_lines.proofs.LineLemmas.{words_in-front, words_in-one}

-- each byte is printed and isn't a space
abbrev pub are_printed : List ℕ → Bool
are_printed [] = true
are_printed (b ∷ bytes) = leb 33 b && are_printed bytes

-- such bytes lack each lower byte
pub printed_lack : (byte : ℕ) (bytes : List ℕ) → byte < 33 → are_printed bytes ≡ true →
    Lacks byte bytes
printed_lack byte [] low printed = tt
printed_lack byte (b ∷ bytes) low printed =
    let parts = and_parts (leb 33 b) (are_printed bytes) printed in
    let high : 33 ≤ b = leb-true 33 b parts.0 in
    (λ e. Prim.omega arith, printed_lack byte bytes low parts.1)

-- such bytes, where there are any, are a word
pub printed_is_word : (bytes : List ℕ) → is_some bytes ≡ true → are_printed bytes ≡ true →
    IsWord bytes
printed_is_word [] some printed = absurd (false≢true some)
printed_is_word (b ∷ bytes) some printed = record {
  some = λ e. Prim.cc;
  no_space = printed_lack 32 (b ∷ bytes) (omega arith) printed;
  no_feed = printed_lack 10 (b ∷ bytes) (omega arith) printed;
}

-- digits are printed
pub digits_are_printed : (bytes : List ℕ) → all_ascii_digits bytes ≡ true → are_printed bytes ≡ true
digits_are_printed [] digits = refl
digits_are_printed (b ∷ bytes) digits =
    let parts = and_parts (is_ascii_digit b) (all_ascii_digits bytes) digits in
    let high : 33 ≤ b = omega (arith, leb-true 48 b (and_parts (leb 48 b) (leb b 57) parts.0).0) in
    and_from (leb 33 b) (are_printed bytes) (le-leb 33 b high) (digits_are_printed bytes parts.1)

-- bytes that aren't none are some
pub longer_is_some : (bytes : List ℕ) → 0 < length bytes → is_some bytes ≡ true
longer_is_some [] long = absurd (omega arith)
longer_is_some (b ∷ bytes) long = refl

-- the spelling of a number is a word
pub decimal_is_word : (number : ℕ) → number < 10 ^ 19 → IsWord (decimal number)
decimal_is_word number within =
    let plain = decimal_is_plain number within in
    printed_is_word (decimal number) (longer_is_some (decimal number) plain.some)
    (digits_are_printed (decimal number) plain.digits)

-- so is that of a whole number
pub signed_is_word : (number : ℤ) → unsigned_abs number < 10 ^ 19 → IsWord (signed_decimal number)
signed_is_word (pos n) within = decimal_is_word n within
signed_is_word (negsuc n) within =
    printed_is_word (45 ∷ decimal (suc n)) refl
    (and_from (leb 33 45) (are_printed (decimal (suc n))) refl
    (digits_are_printed (decimal (suc n)) (decimal_is_plain (suc n) within).digits))

-- what isn't true is false
not_equal : (b : Bool) → (b ≡ true → ⊥) → b ≡ false
not_equal true apart = absurd (apart refl)
not_equal false apart = refl

-- the spelling of a number above 0 isn't `0`
decimal_not_zero : (number : ℕ) → suc number < 10 ^ 19 →
    bytes_eq (decimal (suc number)) (48 ∷ []) ≡ false
decimal_not_zero number within =
    not_equal (bytes_eq (decimal (suc number)) (48 ∷ []))
    (λ e. absurd (omega (
      arith,
      decimal_injective (suc number) 0 (within_64 (suc number) within) (omega arith)
          ((bytes_eq-Decides (decimal (suc number)) (48 ∷ [])).0 e
          ∙ sym (decimal_digit 0 (omega arith))),
    )))

-- the spelling of a whole number has the form of one
pub signed_has_form : (number : ℤ) → unsigned_abs number < 10 ^ 19 →
    is_integer (signed_decimal number) ≡ true
signed_has_form (pos n) within =
    ap (λ b. b || is_below_zero (decimal n)) (decimal_has_form n within)
signed_has_form (negsuc n) within =
    ap (λ b. is_numeral (45 ∷ decimal (suc n)) || b)
    (and_from ((45 == 45) && is_numeral (decimal (suc n)))
    (not (bytes_eq (decimal (suc n)) (48 ∷ []))) (decimal_has_form (suc n) within)
    (ap not (decimal_not_zero n within)))
    ∙ or-true (is_numeral (45 ∷ decimal (suc n)))

-- a byte of a name is printed
name_byte_is_printed : (b : ℕ) → is_name_byte b ≡ true → 33 ≤ b
name_byte_is_printed b is = Prim.grind (arith, nat_tests)

-- bytes of names are printed
pub name_bytes_are_printed : (bytes : List ℕ) → are_name_bytes bytes ≡ true →
    are_printed bytes ≡ true
name_bytes_are_printed [] name = refl
name_bytes_are_printed (b ∷ bytes) name =
    let parts = and_parts (is_name_byte b) (are_name_bytes bytes) name in
    and_from (leb 33 b) (are_printed bytes) (le-leb 33 b (name_byte_is_printed b parts.0))
    (name_bytes_are_printed bytes parts.1)

-- what begins well is something
begins_some : (bytes : List ℕ) → begins_well bytes ≡ true → is_some bytes ≡ true
begins_some [] well = absurd (false≢true well)
begins_some (b ∷ bytes) well = refl

-- a name is a word
pub name_is_word : (bytes : List ℕ) → IsTrue (is_name bytes) → IsWord bytes
name_is_word bytes name =
    let parts = and_parts (begins_well bytes && leb (length bytes) 64) (are_name_bytes bytes)
    name in
    printed_is_word bytes
    (begins_some bytes (and_parts (begins_well bytes) (leb (length bytes) 64) parts.0).0)
    (name_bytes_are_printed bytes parts.1)

-- bytes that lack a byte, behind others that do
pub Lacks-append : (byte : ℕ) (front rest : List ℕ) → Lacks byte front → Lacks byte rest →
    Lacks byte (front ++ rest)
Lacks-append byte [] rest lacks lacks_too = lacks_too
Lacks-append byte (b ∷ front) rest lacks lacks_too =
    (lacks.0, Lacks-append byte front rest lacks.1 lacks_too)

-- words have no line feed
all_lack_feed : (words : List (List ℕ)) → AllByRecursion IsWord words →
    AllByRecursion (λ w. Lacks 10 w) words
all_lack_feed [] are = tt
all_lack_feed (w ∷ words) are = (are.0.no_feed, all_lack_feed words are.1)

-- no byte of words that lack it is in their line
pub line_lacks : (byte : ℕ) (words : List (List ℕ)) → 32 ≢ byte →
    AllByRecursion (λ w. Lacks byte w) words → Lacks byte (line_of words)
line_lacks byte [] apart lacks = tt
line_lacks byte (w ∷ []) apart lacks = lacks.0
line_lacks byte (w ∷ v ∷ words) apart lacks = Lacks-append byte w (32 ∷ line_of (v ∷ words)) lacks.0
    (apart, line_lacks byte (v ∷ words) apart lacks.1)

-- the words of a line come back
pub words_come_back : (words : List (List ℕ)) → words ≢ [] → AllByRecursion IsWord words →
    words_in (line_of words) ≡ words
words_come_back [] some are = absurd (some refl)
words_come_back (w ∷ []) some are = words_in-one w are.0.no_space
words_come_back (w ∷ v ∷ words) some are =
    words_in-front w (line_of (v ∷ words)) are.0.no_space
    ∙ ap (λ (ws : List (List ℕ)). w ∷ ws) (words_come_back (v ∷ words) (λ e. Prim.cc) are.1)

-- a line of words is whole
pub line_is_whole : (words : List (List ℕ)) → AllByRecursion IsWord words → Lacks 10 (line_of words)
line_is_whole words are = line_lacks 10 words (λ e. Prim.omega arith) (all_lack_feed words are)

-- one of two tests that passed
one_of : (a b : Bool) (P : Type 0) → (a ≡ true → P) → (b ≡ true → P) → (a || b) ≡ true → P
one_of true b P first second passed = first refl
one_of false b P first second passed = second passed

-- `-` before the spelling of a number that isn't 0
minus_spelled : (b : ℕ) (bytes : List ℕ) → b ≡ 45 → not (bytes_eq bytes (48 ∷ [])) ≡ true →
    (number : ℕ) → IsNumeralOf bytes number → (z : ℤ) × IsIntegerOf (b ∷ bytes) z
minus_spelled b bytes minus apart zero is =
    absurd (false≢true
    (sym (ap not ((bytes_eq-Decides bytes (48 ∷ [])).1
    (is.spelled ∙ decimal_digit 0 (omega arith)))) ∙ apart))
minus_spelled b bytes minus apart (suc n) is =
    (negsuc n, record { within = is.within; spelled = Prim.cc (minus, is.spelled) })

-- bytes below zero are `-` and the spelling of a number that isn't 0
below_zero_spelled : (bytes : List ℕ) → is_below_zero bytes ≡ true → (number : ℤ)
    × IsIntegerOf bytes number
below_zero_spelled [] below = absurd (false≢true below)
below_zero_spelled (b ∷ bytes) below =
    let parts = and_parts ((b == 45) && is_numeral bytes) (not (bytes_eq bytes (48 ∷ []))) below in
    let front = and_parts (b == 45) (is_numeral bytes) parts.0 in
    minus_spelled b bytes (eqb-true b 45 front.0) parts.1 (is_spelled bytes front.1).0
    (is_spelled bytes front.1).1

-- what has the form of a whole number spells one
pub integer_spelled : (bytes : List ℕ) → is_integer bytes ≡ true → (number : ℤ)
    × IsIntegerOf bytes number
integer_spelled bytes form = one_of (is_numeral bytes) (is_below_zero bytes)
    ((number : ℤ) × IsIntegerOf bytes number)
    (λ plain. (
      pos (is_spelled bytes plain).0,
      record {
        within = (is_spelled bytes plain).1.within;
        spelled =
            (is_spelled bytes plain).1.spelled;
      },
    ))
    (below_zero_spelled bytes) form

-- bytes that spell a whole number have the form of one
pub integer_form : (bytes : List ℕ) (number : ℤ) → IsIntegerOf bytes number →
    is_integer bytes ≡ true
integer_form bytes number is =
    subst (λ bs. is_integer bs ≡ true) (sym is.spelled) (signed_has_form number is.within)

-- whole numbers with one spelling are one
pub signed_is_one : (number other : ℤ) → unsigned_abs number < 10 ^ 19 →
    unsigned_abs other < 10 ^ 19 → signed_decimal number ≡ signed_decimal other → number ≡ other
signed_is_one (pos n) (pos m) within within_too same =
    ap pos (decimal_injective n m (within_64 n within) (within_64 m within_too) same)
signed_is_one (pos n) (negsuc m) within within_too same =
    absurd (no_minus (decimal (suc m)) n (record { within = within; spelled = sym same }))
signed_is_one (negsuc n) (pos m) within within_too same =
    absurd (no_minus (decimal (suc n)) m (record { within = within_too; spelled = same }))
signed_is_one (negsuc n) (negsuc m) within within_too same =
    let digits : decimal (suc n) ≡ decimal (suc m) = Prim.cc in
    let e = decimal_injective (suc n) (suc m) (within_64 (suc n) within)
    (within_64 (suc m) within_too) digits in
    ap negsuc (Prim.cc)

-- the same of bytes that spell them
pub integer_is_one : (bytes : List ℕ) (number other : ℤ) → IsIntegerOf bytes number →
    IsIntegerOf bytes other → number ≡ other
integer_is_one bytes number other is is_too =
    signed_is_one number other is.within is_too.within (sym is.spelled ∙ is_too.spelled)
