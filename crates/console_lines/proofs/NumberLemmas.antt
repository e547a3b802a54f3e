-- What is told of numbers.
use Rattle.std.proofs.Common.{◌≡◌, ◌≤◌, ◌<◌, ℕ, ◌+◌, ◌/◌, ◌%◌, ◌^◌, List, [], ◌∷◌, ◌++◌, length, length-append, sym, ap, ◌∙◌, arith}
use Rattle.std.specs.Fmt.{decimal}
use Rattle.std.proofs.lemmas.Fmt.{decimal_digit, decimal_step, length-decimal-le}
use Rattle.std.proofs.lemmas.List.{append_assoc}

-- a number of one digit, behind a text
pub one_digit : (text new : List ℕ) (n : ℕ) → n < 10 → new ≡ text ++ (48 + n) ∷ [] →
    new ≡ text ++ decimal n
one_digit text new n small is = is ∙ ap (λ (d : List ℕ). text ++ d) (sym (decimal_digit n small))

-- how much room digits take
pub one_has_room : (n : ℕ) → n < 10 → length (decimal n) ≡ 1
one_has_room n small = ap length (decimal_digit n small)

pub more_has_room : (n : ℕ) → 10 ≤ n → n < 2 ^ 64 →
    length (decimal n) ≡ length (decimal (n / 10)) + 1
more_has_room n least within = ap length (decimal_step n least within)
    ∙ length-append (decimal (n / 10)) ((48 + n % 10) ∷ [])

-- a last digit behind the digits before it
pub more_digits :
    (text first new : List ℕ) (n : ℕ) → 10 ≤ n → n < 2 ^ 64 → first ≡ text ++ decimal (n / 10) →
    new ≡ first ++ (48 + n % 10) ∷ [] → new ≡ text ++ decimal n
more_digits text first new n least within first_is new_is =
    new_is ∙ ap (λ (l : List ℕ). l ++ (48 + n % 10) ∷ []) first_is
    ∙ append_assoc text (decimal (n / 10)) ((48 + n % 10) ∷ [])
    ∙ ap (λ (d : List ℕ). text ++ d) (sym (decimal_step n least within))

-- a fault's number and line are short
pub short_kind : (n : ℕ) → n < 256 → length (decimal n) ≤ 3
short_kind n small = length-decimal-le 3 n (omega arith) (omega arith) (omega arith)

pub short_line : (n : ℕ) → n < 2 ^ 32 → length (decimal n) ≤ 10
short_line n small = length-decimal-le 10 n (omega arith) (omega arith) (omega arith)
