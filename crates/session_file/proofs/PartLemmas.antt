-- The names of a session's WAV files.
use Rattle.std.proofs.Common.{◌≡◌, ◌≤◌, ◌<◌, ℕ, ◌+◌, ◌/◌, ◌%◌, ◌^◌, ◌&&◌, ◌||◌, List, [], ◌∷◌, ◌++◌, length, Bool, true, false, true≢false, refl, sym, ap, ◌∙◌, arith, codes, ◌==◌, nat_le, length-append}
use Rattle.std.specs.Fmt.{decimal}
use Rattle.std.proofs.lemmas.Bool.{le-leb}
use Rattle.std.proofs.lemmas.Fmt.{decimal_digit, decimal_step, decimal_by_steps, length-decimal-le}
use Rattle.std.proofs.lemmas.List.{append_assoc}
use Rattle.sl_base.specs.Limits.{max_session_name}
use Rattle.sl_base.specs.Names.{IsName, is_between, is_name_byte, are_name_bytes, begins_well}
use Rattle.session_file.specs.Parts.{part_name}

-- a number of one digit, of two, and of three, behind a text
pub one_digit : (text new : List ℕ) (n : ℕ) → n < 10 → new ≡ text ++ (48 + n) ∷ [] →
    new ≡ text ++ decimal n
one_digit text new n small is = is ∙ ap (λ (d : List ℕ). text ++ d) (sym (decimal_digit n small))

two : (n : ℕ) → 10 ≤ n → n < 100 → decimal n ≡ (48 + n / 10) ∷ (48 + n % 10) ∷ []
two n least most = decimal_step n least (omega (arith, most))
    ∙ ap (λ (d : List ℕ). d ++ (48 + n % 10) ∷ []) (decimal_digit (n / 10) (omega (arith, most)))

pub two_digits :
    (text first new : List ℕ) (n : ℕ) → 10 ≤ n → n < 100 → first ≡ text ++ (48 + n / 10) ∷ [] →
    new ≡ first ++ (48 + n % 10) ∷ []
    → new ≡ text ++ decimal n
two_digits text first new n least most first_is new_is =
    new_is ∙ ap (λ (l : List ℕ). l ++ (48 + n % 10) ∷ []) first_is
    ∙ append_assoc text ((48 + n / 10) ∷ []) ((48 + n % 10) ∷ [])
    ∙ ap (λ (d : List ℕ). text ++ d) (sym (two n least most))

pub three_digits :
    (text first second new : List ℕ) (n : ℕ) → 100 ≤ n → n < 256 →
    first ≡ text ++ (48 + n / 10 / 10) ∷ []
    → second ≡ first ++ (48 + n / 10 % 10) ∷ [] → new ≡ second ++ (48 + n % 10) ∷ [] →
    new ≡ text ++ decimal n
three_digits text first second new n least most first_is second_is new_is =
    let tens = two_digits text first second (n / 10) (omega (arith, least)) (omega (arith, most))
    first_is second_is in
    new_is ∙ ap (λ (l : List ℕ). l ++ (48 + n % 10) ∷ []) tens
    ∙ append_assoc text (decimal (n / 10)) ((48 + n % 10) ∷ [])
    ∙ ap (λ (d : List ℕ). text ++ d)
    (sym (decimal_step n (omega (arith, least)) (omega (arith, most))))

-- both are true, and one of them is enough
both : (a b : Bool) → (a && b) ≡ true → (a ≡ true) × (b ≡ true)
both true true is = (refl, refl)
both true false is = absurd (true≢false (sym is))
both false b is = absurd (true≢false (sym is))

and_both : (a b : Bool) → a ≡ true → b ≡ true → (a && b) ≡ true
and_both a b first second = ap (λ (is : Bool). is && b) first ∙ second

or_second : (a : Bool) → (a || true) ≡ true
or_second true = refl
or_second false = refl

-- bytes of names behind one another
name_bytes-append : (a b : List ℕ) → are_name_bytes a ≡ true → are_name_bytes b ≡ true →
    are_name_bytes (a ++ b) ≡ true
name_bytes-append [] b first second = second
name_bytes-append (x ∷ xs) b first second =
    let parts = both (is_name_byte x) (are_name_bytes xs) first in
    ap (λ (is : Bool). is && are_name_bytes (xs ++ b)) parts.0
    ∙ name_bytes-append xs b parts.1 second

-- a digit may stand in a name
digit_in_name : (d : ℕ) → d < 10 → is_name_byte (48 + d) ≡ true
digit_in_name d small =
    let byte : ℕ = 48 + d in
    let letters : Bool = is_between 65 90 byte || is_between 97 122 byte in
    let digit : is_between 48 57 byte ≡ true = and_both (nat_le 48 byte) (nat_le byte 57)
    (le-leb 48 byte (omega arith)) (le-leb byte 57 (omega (arith, small))) in
    ap (λ (is : Bool). letters || is || byte == 46 || byte == 95 || byte == 45) digit
    ∙ ap (λ (is : Bool). is || byte == 46 || byte == 95 || byte == 45) (or_second letters)

decimal_in_name : (n : ℕ) → n < 2 ^ 64 → are_name_bytes (decimal n) ≡ true
decimal_in_name n fits =
    decimal_by_steps (λ k ds. are_name_bytes ds ≡ true)
    (λ k small. ap (λ (is : Bool). is && true) (digit_in_name k small))
    (λ k ds least so_far. name_bytes-append ds ((48 + k % 10) ∷ []) so_far
    (ap (λ (is : Bool). is && true) (digit_in_name (k % 10) (omega arith))))
    n fits

-- what follows a name's first byte doesn't change how it begins
begins-append : (a b : List ℕ) → begins_well a ≡ true → begins_well (a ++ b) ≡ true
begins-append [] b is = absurd (true≢false (sym is))
begins-append (x ∷ xs) b is = is

-- the name of a part is a name
pub part_is_name : (session : List ℕ) (index : ℕ) → IsName session →
    length session ≤ max_session_name → index < 256 → IsName (part_name session index)
part_is_name session index is short small =
    let dash : List ℕ = session ++ codes "-" in
    let number : List ℕ = dash ++ decimal index in
    let whole : List ℕ = number ++ codes ".wav" in
    let first = both (begins_well session && nat_le (length session) 64) (are_name_bytes session)
    is in
    let begin = both (begins_well session) (nat_le (length session) 64) first.0 in
    let begins : begins_well whole ≡ true =
    begins-append number (codes ".wav")
    (begins-append dash (decimal index) (begins-append session (codes "-") begin.0)) in
    let digits : length (decimal index) ≤ 3 =
    length-decimal-le 3 index (omega arith) (omega (arith, small)) (omega (arith, small)) in
    let long : length whole ≤ 64 =
    omega (
      arith,
      length-append number (codes ".wav"),
      length-append dash (decimal index),
      length-append session (codes "-"),
      digits,
      short,
    ) in
    let bytes : are_name_bytes whole ≡ true =
    name_bytes-append number (codes ".wav")
    (name_bytes-append dash (decimal index) (name_bytes-append session (codes "-") first.1 refl)
    (decimal_in_name index (omega (arith, small)))) refl in
    and_both (begins_well whole && nat_le (length whole) 64) (are_name_bytes whole)
    (and_both (begins_well whole) (nat_le (length whole) 64) begins (le-leb (length whole) 64 long))
    bytes

-- a number below 256 has three digits at most
pub short_number : (text new : List ℕ) (n : ℕ) → n < 256 → new ≡ text ++ decimal n →
    length new ≤ length text + 3
short_number text new n small is =
    let digits : length (decimal n) ≤ 3 =
    length-decimal-le 3 n (omega arith) (omega (arith, small)) (omega (arith, small)) in
    omega (arith, ap length is, length-append text (decimal n), digits)
