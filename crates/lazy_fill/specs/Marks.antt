-- A cell of the layer that is written is fresh where its address is at or above the floor: so one
-- number keeps all marks.
-- "The layer that is written" in docs/rules.md.
use Rattle.std.specs.Prelude.{ℕ, List, map, nat_le}
use Rattle.looper_rules.specs.Layers.{Cell}

-- the cell at an address
abbrev pub marked_cell : ℕ → ℕ → Cell ℕ
marked_cell floor a = record { content = a; fresh = nat_le floor a }

-- the cells at these addresses
abbrev pub marked : ℕ → List ℕ → List (Cell ℕ)
marked floor list = map (marked_cell floor) list
