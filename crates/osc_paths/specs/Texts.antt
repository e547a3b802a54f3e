-- Parts of an address: what stands before the first of a byte and what behind it, and numbers in
-- their one spelling.
-- "OSC paths" in docs/formats.md.
use Rattle.std.specs.Prelude.{ℕ, ◌==◌, nat_le, if◌then◌else◌, List, take, drop, Option, Some, None, option_map, position}
use Rattle.std.specs.Str.Parse.{digits_value}
use Rattle.text_lines.specs.Numerals.{is_numeral}

-- the bytes cut at this place, without the byte there
abbrev pub cut_behind : List ℕ → ℕ → List ℕ × List ℕ
cut_behind bytes place = (take place bytes, drop 1 (drop place bytes))

-- what stands before the first of a byte, and what behind it
abbrev pub cut_at : ℕ → List ℕ → Option (List ℕ × List ℕ)
cut_at byte bytes = option_map (cut_behind bytes) (position (λ b. b == byte) bytes)

-- one step behind another, where that gave something
infixl 10 ◌>>=◌
abbrev pub ◌>>=◌ : {A B : Type 0} → Option A → (A → Option B) → Option B
None >>= next = None
(Some x) >>= next = next x

-- the number that the bytes spell
abbrev pub number_in : List ℕ → Option ℕ
number_in bytes = if is_numeral bytes then Some (digits_value 10 bytes) else None

-- the same, at most so great
abbrev pub number_up_to : ℕ → List ℕ → Option ℕ
number_up_to most bytes = number_in bytes >>= λ number. if nat_le number most then Some number else
    None
