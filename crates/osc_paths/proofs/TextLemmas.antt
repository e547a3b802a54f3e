-- Numbers and cuts of texts.
use Rattle.std.proofs.Common.{◌≡◌, ◌⊎◌, ℕ, suc, ◌+◌, ◌≤◌, ◌<◌, ◌^◌, Bool, true, false, cond, eqb, ltb, leb, not, List, [], ◌∷◌, ◌++◌, length, take, drop, Option, Some, None, refl, sym, ap, subst, ◌∙◌, arith, IfSome, IsNone}
use Rattle.std.specs.Prelude.{option_map}
use Rattle.std.specs.Str.{all_ascii_digits}
use Rattle.std.specs.Str.Parse.{digits_value}
use Rattle.std.specs.Char.{is_ascii_digit}
use Rattle.std.specs.Fmt.{decimal}
use Rattle.std.specs.List.{list_all, prefix_len}
use Rattle.std.proofs.lemmas.Bool.{and_parts, and_from, leb-true, le-leb, lt-ltb, le-ltb, ltb-true}
use Rattle.std.proofs.lemmas.Bool.Decides.{nat_tests}
use Rattle.std.proofs.lemmas.List.{length-append, take_at, drop_at, take-append-drop}
use Rattle.text_lines.specs.Numerals.{is_numeral, IsNumeralOf}
use Rattle.text_lines.proofs.NumeralLemmas.{has_form, value_is_spelled, decimal_is_plain}
use Rattle.text_lines.proofs.IntegerLemmas.{numeral_is_one}
use Rattle.osc_paths.specs.Texts.{cut_behind, cut_at, number_in, number_up_to, ◌>>=◌}

-- what a reader of numbers found is the number
pub numeral_found : (bytes : List ℕ) (read : Option ℕ) → IfSome read (IsNumeralOf bytes) →
    (IsNone read → (number : ℕ) → IsNumeralOf bytes number → ⊥) → read ≡ number_in bytes
numeral_found bytes (Some number) found only =
    let form : is_numeral bytes ≡ true = has_form bytes number found in
    rw (
      form,
      numeral_is_one bytes number (digits_value 10 bytes) found
          (value_is_spelled bytes form),
    ) refl
numeral_found bytes None found only =
    elim (is_numeral bytes) as (λ b. is_numeral bytes ≡ b →
    None ≡ cond b (Some (digits_value 10 bytes)) None) [
      | true ↦ λ form. absurd (only refl (digits_value 10 bytes) (value_is_spelled bytes form))
      | false ↦ λ no_form. refl
    ] refl

-- a value that is there
abbrev there : {X : Type 0} → X → Option X
there x = Some x

pub some_is : {X : Type 0} (x y : X) → there x ≡ there y → x ≡ y
some_is x y same = cc

-- the value of a step that gave something
pub bind_some : {A B : Type 0} (read : Option A) (next : A → Option B) (y : B) →
    (read >>= next) ≡ Some y → (x : A) × (read ≡ Some x) × (next x ≡ Some y)
bind_some (Some x) next y same = (x, refl, same)
bind_some None next y same = absurd cc

-- a test that had to hold
pub guard_some : {A : Type 0} (b : Bool) (next : Option A) (y : A) → cond b next None ≡ Some y →
    (b ≡ true) × (next ≡ Some y)
guard_some true next y same = (refl, same)
guard_some false next y same = absurd cc

-- a number that is read is spelled so
pub number_takes : (most : ℕ) (bytes : List ℕ) (number : ℕ) →
    number_up_to most bytes ≡ Some number → (bytes ≡ decimal number) × (number ≤ most)
number_takes most bytes number same =
    let read = bind_some (number_in bytes) (λ n. cond (leb n most) (Some n) None) number same in
    let form = guard_some (is_numeral bytes) (Some (digits_value 10 bytes)) read.0 read.1 in
    let low = guard_some (leb read.0 most) (Some read.0) number read.2 in
    let is : read.0 ≡ number = some_is read.0 number low.1 in
    let value : digits_value 10 bytes ≡ read.0 = some_is (digits_value 10 bytes) read.0 form.1 in (
      (value_is_spelled bytes form.0).spelled ∙ ap decimal (value ∙ is),
      subst (λ (n : ℕ). n ≤ most) is (leb-true read.0 most low.0),
    )

-- a number is read from its spelling
pub number_again : (most number : ℕ) → number ≤ most → number < 10 ^ 19 →
    number_up_to most (decimal number) ≡ Some number
number_again most number low within =
    let is : IsNumeralOf (decimal number) number = record { within = within; spelled = refl } in
    let form : is_numeral (decimal number) ≡ true = has_form (decimal number) number is in
    let value : digits_value 10 (decimal number) ≡ number = numeral_is_one (decimal number)
    (digits_value 10 (decimal number)) number (value_is_spelled (decimal number) form) is in
    rw (form, value, le-leb number most low) refl

-- the byte isn't among these
abbrev pub is_other : ℕ → ℕ → Bool
is_other byte b = not (eqb b byte)

abbrev pub lacks : ℕ → List ℕ → Bool
lacks byte bytes = list_all (is_other byte) bytes

-- what stands before the first of a byte
before_lacks : (byte : ℕ) (bytes : List ℕ) →
    lacks byte (take (prefix_len (is_other byte) bytes) bytes) ≡ true
before_lacks byte [] = refl
before_lacks byte (b ∷ bytes) =
    elim (is_other byte b) as (λ passes. is_other byte b ≡ passes →
    lacks byte (take (cond passes (1 + prefix_len (is_other byte) bytes) 0) (b ∷ bytes)) ≡ true) [
      | true ↦ λ passes. let more : 1 + prefix_len (is_other byte) bytes ≡ suc
          (prefix_len (is_other byte) bytes) = omega arith in
          rw (more, passes, before_lacks byte bytes) refl
      | false ↦ λ stops. refl
    ] refl

-- the byte stands there
stops_there : (byte : ℕ) (bytes : List ℕ) → prefix_len (is_other byte) bytes < length bytes →
    drop (prefix_len (is_other byte) bytes) bytes ≡ byte
    ∷ drop 1 (drop (prefix_len (is_other byte) bytes) bytes)
stops_there byte [] less = absurd (omega arith)
stops_there byte (b ∷ bytes) less =
    elim (is_other byte b) as (λ passes. is_other byte b ≡ passes →
    cond passes (1 + prefix_len (is_other byte) bytes) 0 < suc (length bytes)
    → drop (cond passes (1 + prefix_len (is_other byte) bytes) 0) (b ∷ bytes) ≡ byte
    ∷ drop 1 (drop (cond passes (1 + prefix_len (is_other byte) bytes) 0) (b ∷ bytes))) [
      | true ↦ λ passes low. let more : 1 + prefix_len (is_other byte) bytes ≡ suc
          (prefix_len (is_other byte) bytes) = omega arith in
          rw more (stops_there byte bytes (omega arith))
      | false ↦ λ stops low. let is : b ≡ byte = grind (arith, nat_tests) in
          ap (λ (first : ℕ). first ∷ bytes) is
    ] refl less

abbrev cut_of : List ℕ → Option ℕ → Option (List ℕ × List ℕ)
cut_of bytes place = option_map (cut_behind bytes) place

pub cut_found : (byte : ℕ) (bytes : List ℕ) (x : List ℕ × List ℕ) → cut_at byte bytes ≡ Some x →
    (lacks byte x.0 ≡ true) × (bytes ≡ x.0 ++ (byte ∷ x.1))
cut_found byte bytes x same =
    let place : ℕ = prefix_len (is_other byte) bytes in
    elim (ltb place (length bytes)) as (λ b. ltb place (length bytes) ≡ b →
    cut_of bytes (cond b (Some place) None) ≡ Some x → (lacks byte x.0 ≡ true)
    × (bytes ≡ x.0 ++ (byte ∷ x.1))) [
      | true ↦ λ less cut.
          let is : cut_behind bytes place ≡ x = some_is (cut_behind bytes place) x cut in
          let stops = stops_there byte bytes (ltb-true _ _ less) in
          let whole : bytes ≡ take place bytes ++ (byte ∷ drop 1 (drop place bytes)) =
          sym (take-append-drop place bytes) ∙ ap (λ (rest : List ℕ). take place bytes ++ rest)
          stops in
          subst (λ (y : List ℕ × List ℕ). (lacks byte y.0 ≡ true) × (bytes ≡ y.0 ++ (byte ∷ y.1)))
          is (before_lacks byte bytes, whole)
      | false ↦ λ past cut. absurd cc
    ] refl same

-- the length of what lacks a byte
there_length : (byte : ℕ) (front rest : List ℕ) → lacks byte front ≡ true →
    prefix_len (is_other byte) (front ++ (byte ∷ rest)) ≡ length front
there_length byte [] rest none =
    let same : is_other byte byte ≡ false = grind (arith, nat_tests) in
    rw same refl
there_length byte (b ∷ front) rest none =
    let parts = and_parts (is_other byte b) (lacks byte front) none in
    rw (parts.0, there_length byte front rest parts.1) (omega arith)

pub cut_there : (byte : ℕ) (front rest : List ℕ) → lacks byte front ≡ true →
    cut_at byte (front ++ (byte ∷ rest)) ≡ Some (front, rest)
cut_there byte front rest none =
    let place : prefix_len (is_other byte) (front ++ (byte ∷ rest)) ≡ length front =
    there_length byte front rest none in
    let less : ltb (length front) (length (front ++ (byte ∷ rest))) ≡ true =
    lt-ltb _ _ (omega (arith, length-append front (byte ∷ rest))) in
    rw (
      place,
      less,
      take_at front (byte ∷ rest) (length front) refl,
      drop_at front (byte ∷ rest) (length front) refl,
    ) refl

-- a byte that isn't there cuts nothing
whole_length : (byte : ℕ) (bytes : List ℕ) → lacks byte bytes ≡ true →
    prefix_len (is_other byte) bytes ≡ length bytes
whole_length byte [] none = refl
whole_length byte (b ∷ bytes) none =
    let parts = and_parts (is_other byte b) (lacks byte bytes) none in
    rw (parts.0, whole_length byte bytes parts.1) (omega arith)

pub cut_nowhere : (byte : ℕ) (bytes : List ℕ) → lacks byte bytes ≡ true → cut_at byte bytes ≡ None
cut_nowhere byte bytes none =
    let past : ltb (length bytes) (length bytes) ≡ false = le-ltb _ _ (omega arith) in
    rw (whole_length byte bytes none, past) refl

-- digits lack each byte that is none
digits_lack : (byte : ℕ) (bytes : List ℕ) → (byte < 48) ⊎ (57 < byte) →
    all_ascii_digits bytes ≡ true → lacks byte bytes ≡ true
digits_lack byte [] apart digits = refl
digits_lack byte (b ∷ bytes) apart digits =
    let parts = and_parts (is_ascii_digit b) (all_ascii_digits bytes) digits in
    let range = and_parts (leb 48 b) (leb b 57) parts.0 in
    let low : 48 ≤ b = leb-true 48 b range.0 in
    let high : b ≤ 57 = leb-true b 57 range.1 in
    let other : is_other byte b ≡ true = grind (arith, nat_tests) in
    and_from (is_other byte b) (lacks byte bytes) other (digits_lack byte bytes apart parts.1)

pub decimal_lacks : (byte number : ℕ) → (byte < 48) ⊎ (57 < byte) → number < 10 ^ 19 →
    lacks byte (decimal number) ≡ true
decimal_lacks byte number apart within =
    digits_lack byte (decimal number) apart (decimal_is_plain number within).digits

digit_of : (bytes : List ℕ) → 0 < length bytes → all_ascii_digits bytes ≡ true → (first : ℕ)
    × (rest : List ℕ) × (bytes ≡ first ∷ rest) × (48 ≤ first) × (first ≤ 57)
digit_of [] some digits = absurd (omega arith)
digit_of (first ∷ rest) some digits =
    let parts = and_parts (is_ascii_digit first) (all_ascii_digits rest) digits in
    let range = and_parts (leb 48 first) (leb first 57) parts.0 in
    (first, rest, refl, leb-true 48 first range.0, leb-true first 57 range.1)

pub some_digit : (number : ℕ) → number < 10 ^ 19 → (first : ℕ) × (rest : List ℕ)
    × (decimal number ≡ first ∷ rest) × (48 ≤ first) × (first ≤ 57)
some_digit number within =
    let plain = decimal_is_plain number within in
    digit_of (decimal number) plain.some plain.digits
