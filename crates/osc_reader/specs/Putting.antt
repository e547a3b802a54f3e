-- Bytes are put behind others, as far as a message may be long.
-- "OSC packets" in docs/formats.md.
use Rattle.std.specs.Prelude.{◌≡◌, ◌<◌, ◌+◌, ℕ, Bool, true, false, List, ◌++◌, length}

-- the greatest number of bytes of a message that is written
abbrev pub max_message : ℕ
max_message = 1024

-- new is old with these bytes behind it, or they are too many
abbrev pub Puts : List ℕ → List ℕ → List ℕ → Bool → Type 0
Puts old new bytes true = new ≡ old ++ bytes
Puts old new bytes false = max_message < length old + length bytes
