-- A return path begins with `/` and has 1 to 63 bytes.
-- "OSC paths" in docs/formats.md.
use Rattle.std.specs.Prelude.{ℕ, Bool, false, ◌&&◌, ◌==◌, nat_le, List, [], ◌∷◌, length}

-- the bytes begin with `/`
abbrev pub begins_with_slash : List ℕ → Bool
begins_with_slash [] = false
begins_with_slash (first ∷ rest) = first == 47

-- the bytes are a return path
abbrev pub is_return_path : List ℕ → Bool
is_return_path path = begins_with_slash path && nat_le (length path) 63
