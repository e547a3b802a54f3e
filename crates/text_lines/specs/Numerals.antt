-- A number is spelled by its decimal digits, at most 19 of them. Where there are two or more, the
-- first isn't `0`. A whole number below 0 is spelled by `-` and the number that it lies below 0. So
-- each has one spelling, and `-0` is none.
-- "Numbers in texts" in docs/formats.md.
use Rattle.std.specs.Prelude.{ℕ, ℤ, ◌≡◌, ◌<◌, ◌^◌, Bool, true, false, ◌&&◌, ◌||◌, not, ◌==◌, nat_le, List, [], ◌∷◌, length, unsigned_abs}
use Rattle.std.specs.Str.{all_ascii_digits, bytes_eq}
use Rattle.std.specs.Fmt.{decimal, signed_decimal}

-- there is a first byte, and it is not `0` where others follow
abbrev pub begins_plainly : List ℕ → Bool
begins_plainly [] = false
begins_plainly (byte ∷ []) = true
begins_plainly (byte ∷ next ∷ bytes) = not (byte == 48)

-- the bytes spell a number
abbrev pub is_numeral : List ℕ → Bool
is_numeral bytes = begins_plainly bytes && all_ascii_digits bytes && nat_le (length bytes) 19

-- the bytes are `-` and a number other than 0
abbrev pub is_below_zero : List ℕ → Bool
is_below_zero [] = false
is_below_zero (byte ∷ bytes) = byte == 45 && is_numeral bytes && not (bytes_eq bytes (48 ∷ []))

-- the bytes spell a whole number
abbrev pub is_integer : List ℕ → Bool
is_integer bytes = is_numeral bytes || is_below_zero bytes

-- the bytes are the spelling of a number, of at most 19 digits
pub record IsNumeralOf (bytes : List ℕ) (number : ℕ) : Type 0 where
  pub within : number < 10 ^ 19
  pub spelled : bytes ≡ decimal number

-- the bytes are the spelling of a whole number, of at most 19 digits
pub record IsIntegerOf (bytes : List ℕ) (number : ℤ) : Type 0 where
  pub within : unsigned_abs number < 10 ^ 19
  pub spelled : bytes ≡ signed_decimal number
