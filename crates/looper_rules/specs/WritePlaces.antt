-- A write over a cell or before it takes a place of the list, and one at the end the place behind
-- the last. Where a streak goes on, the next write is in its manner, at the place next to its last
-- one.
-- "Writing" and "The stack" in docs/rules.md.
use Rattle.std.specs.Prelude.{◌≡◌, ◌<◌, ℕ, ⊤, Option, Some, None}
use Rattle.sl_commands.specs.declared.How.{How}
use Rattle.sl_commands.specs.declared.How.TheVariants.{Forward, Backward, Insert, Append}
use Rattle.looper_rules.specs.Stack.{LastWrite}
use Rattle.looper_rules.specs.States.{IsBehind}

-- a place that a write in this manner may take in a list of this length
abbrev pub IsPlace : How → ℕ → ℕ → Type 0
IsPlace Forward place length = place < length
IsPlace Backward place length = place < length
IsPlace Insert place length = place < length
IsPlace Append place length = place ≡ length

-- a write in this manner at this place goes on with the streak, where one goes on
abbrev pub Follows : Option LastWrite → How → ℕ → Type 0
Follows None how place = ⊤
Follows (Some last) how place = (last.how ≡ how) × IsBehind how last.place place
