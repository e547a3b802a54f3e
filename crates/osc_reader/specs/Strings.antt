-- An OSC string is a text with no zero byte, one zero byte, and zero bytes up to the next multiple
-- of 4.
-- "OSC packets" in docs/formats.md.
use Rattle.std.specs.Prelude.{◌≡◌, ℕ, ◌-◌, ◌%◌, ◌++◌, Bool, not, ◌==◌, List, length, replicate, IsTrue}
use Rattle.std.specs.List.{list_all}

-- the byte may stand in a text
abbrev pub is_not_zero : ℕ → Bool
is_not_zero byte = not (byte == 0)

-- no byte is zero
abbrev pub has_no_zero : List ℕ → Bool
has_no_zero bytes = list_all is_not_zero bytes

-- how many zeros stand behind a text of this length: 1 to 4
abbrev pub zeros_behind : ℕ → ℕ
zeros_behind length = 4 - length % 4

-- the string of a text
abbrev pub string_of : List ℕ → List ℕ
string_of text = text ++ replicate (zeros_behind (length text)) 0

-- the bytes are the string of a text
pub record IsString (text bytes : List ℕ) : Type 0 where
  pub plain : IsTrue (has_no_zero text)
  pub spelled : bytes ≡ string_of text
