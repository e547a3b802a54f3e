-- The bytes of a name are ASCII, so they are a text.
use Rattle.std.proofs.Common.{◌≡◌, ℕ, zero, suc, ◌<◌, true, List, [], ◌∷◌, arith}
use Rattle.std.proofs.lemmas.Bool.{and_parts}
use Rattle.std.proofs.lemmas.Str.{IsUtf8-from_ascii}
use Rattle.std.specs.Str.{IsUtf8, IsAscii}
use Rattle.sl_base.specs.Names.{IsName, is_name_byte, are_name_bytes}

-- a byte of a name is below 128
pub name_byte_is_ascii : (byte : ℕ) → is_name_byte byte ≡ true → byte < 128
name_byte_is_ascii byte holds = grind (arith, holds)

-- so is each of them
pub name_bytes_are_ascii : (bytes : List ℕ) → are_name_bytes bytes ≡ true → IsAscii bytes
name_bytes_are_ascii [] holds place = omega arith
name_bytes_are_ascii (byte ∷ bytes) holds zero =
    name_byte_is_ascii byte (and_parts (is_name_byte byte) (are_name_bytes bytes) holds).0
name_bytes_are_ascii (byte ∷ bytes) holds (suc place) =
    name_bytes_are_ascii bytes (and_parts (is_name_byte byte) (are_name_bytes bytes) holds).1 place

-- a name is a text
pub name_is_text : (bytes : List ℕ) → IsName bytes → IsUtf8 bytes
name_is_text bytes holds =
    IsUtf8-from_ascii bytes
    (name_bytes_are_ascii bytes (and_parts _ (are_name_bytes bytes) holds).1)
