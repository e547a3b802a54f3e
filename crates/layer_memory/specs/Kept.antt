-- Layers that share a tape hold addresses, each below the tape length. The ends of layers and redo
-- layers never fall from older to newer, and a closed layer's addresses are below its end. The
-- pinned list's addresses are below the pin. A fresh cell of the open layer has an address that no
-- other cell of any layer, redo layer, base or pinned list has.
-- "Layers" and "The stack" in docs/rules.md.
use Rattle.std.specs.Prelude.{◌≡◌, ◌≢◌, ◌≤◌, ℕ, ⊤, zero, suc, List, [], ◌∷◌, Option, Some, None}
use Rattle.std.specs.List.{AllByRecursion}
use Rattle.looper_rules.specs.Layers.{Cell, Layer, fresh_cell, contents, unmarked, current_end}
use Rattle.looper_rules.specs.Stack.{Stack, Pin}
use Rattle.lazy_fill.specs.Addresses.{Below, Without}

-- the addresses of a layer and its base are below one
abbrev pub LayerBelow : ℕ → Layer ℕ → Type 0
LayerBelow n l = Below n (contents l.cells) × Below n l.base

-- the addresses of a pinned list are below one
abbrev pub PinBelow : ℕ → Option (Pin ℕ) → Type 0
PinBelow n None = ⊤
PinBelow n (Some p) = Below n p.list

-- all addresses of a stack are below one
pub record StackBelow (n : ℕ) (s : Stack ℕ) : Type 0 where
  pub layers : AllByRecursion (LayerBelow n) s.layers
  pub redo : AllByRecursion (LayerBelow n) s.redo
  pub pin : PinBelow n s.pin

-- a closed layer stands below its end, has no base, and none of its cells is fresh
pub record IsLow (l : Layer ℕ) : Type 0 where
  pub below : Below l.end (contents l.cells)
  pub no_base : l.base ≡ []
  pub not_fresh : l.cells ≡ unmarked l.cells

-- closed layers, newest first: each is below its end, and no end is below that of the layer under
-- it
abbrev pub Ordered : List (Layer ℕ) → Type 0
Ordered [] = ⊤
Ordered (l ∷ ls) = (current_end ls ≤ l.end) × (IsLow l × Ordered ls)

-- redo layers, the next one first: they go on so from an end, up to the tape length
abbrev pub GoesOn : ℕ → ℕ → List (Layer ℕ) → Type 0
GoesOn tape end [] = end ≤ tape
GoesOn tape end (l ∷ ls) = (end ≤ l.end) × (IsLow l × GoesOn tape l.end ls)

-- a pinned list is below the pin's tape length, and that is at most another
abbrev pub PinWithin : ℕ → Option (Pin ℕ) → Type 0
PinWithin n None = ⊤
PinWithin n (Some p) = (p.tape ≤ n) × Below p.tape p.list

-- a fresh cell stands at this place, and its address nowhere else
abbrev pub AtOnce : ℕ → ℕ → List (Cell ℕ) → Type 0
AtOnce place a [] = ⊥
AtOnce zero a (c ∷ cs) = (c ≡ fresh_cell a) × Without a (contents cs)
AtOnce (suc k) a (c ∷ cs) = (c.content ≢ a) × AtOnce k a cs

-- an address stands nowhere in a layer or its base
abbrev pub LayerWithout : ℕ → Layer ℕ → Type 0
LayerWithout a l = Without a (contents l.cells) × Without a l.base

-- an address stands nowhere in a pinned list
abbrev pub PinWithout : ℕ → Option (Pin ℕ) → Type 0
PinWithout a None = ⊤
PinWithout a (Some p) = Without a p.list

-- an address stands at this place of the current layer, in a fresh cell, and nowhere else in these
-- layers
abbrev pub AloneIn : ℕ → ℕ → List (Layer ℕ) → Type 0
AloneIn place a [] = ⊥
AloneIn place a (l ∷ ls) = (AtOnce place a l.cells × Without a l.base)
    × AllByRecursion (LayerWithout a) ls

-- the fresh cell at this place of the open layer has an address that no other cell of any layer,
-- redo layer, base or pinned list has
pub record Alone (place a : ℕ) (s : Stack ℕ) : Type 0 where
  pub layers : AloneIn place a s.layers
  pub redo : AllByRecursion (LayerWithout a) s.redo
  pub pin : PinWithout a s.pin
