-- A name of a file has 1 to 64 bytes of A-Z, a-z, 0-9, '.', '_' and '-', the first not '.'.
-- "Names of files" in docs/formats.md.
use Rattle.std.specs.Prelude.{ℕ, Bool, true, false, ◌&&◌, ◌||◌, not, List, [], ◌∷◌, length, nat_le, ◌==◌, IsTrue}

-- the byte lies from one byte to another
abbrev pub is_between : ℕ → ℕ → ℕ → Bool
is_between low high byte = nat_le low byte && nat_le byte high

-- a letter, a digit, '.', '_' or '-'
abbrev pub is_name_byte : ℕ → Bool
is_name_byte byte = is_between 65 90 byte || is_between 97 122 byte || is_between 48 57 byte
    || byte == 46 || byte == 95 || byte == 45

-- each byte may stand in a name
abbrev pub are_name_bytes : List ℕ → Bool
are_name_bytes [] = true
are_name_bytes (byte ∷ bytes) = is_name_byte byte && are_name_bytes bytes

-- the bytes don't begin with '.'
abbrev pub begins_well : List ℕ → Bool
begins_well [] = false
begins_well (byte ∷ _) = not (byte == 46)

-- the bytes are a name
abbrev pub is_name : List ℕ → Bool
is_name bytes = begins_well bytes && nat_le (length bytes) 64 && are_name_bytes bytes

abbrev pub IsName : List ℕ → Type 0
IsName bytes = IsTrue (is_name bytes)
