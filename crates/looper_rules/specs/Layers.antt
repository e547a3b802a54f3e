-- A layer is one whole list of frames. Each of its cells has a frame, and a mark that says whether
-- it is fresh: written since the layer was opened, and at a place of the tape that nothing else
-- holds.
-- A layer also has a base (the list from which it was opened), its seams and those of its base, a
-- cycle, and an end: the tape length at which it was opened while it is open, and the tape length
-- at its closing afterwards. A closed layer has no fresh cell, no base and 0 base seams. The newest
-- layer is the current one.
-- What a cell holds is left open: a frame here, and an address where layers share a tape.
-- "Layers" in docs/rules.md.
use Rattle.std.specs.Prelude.{ℕ, Bool, true, false, List, [], ◌∷◌, map, length, Option, Some, None, sum_by}

-- one place of a layer
pub record Cell (A : Type 0) : Type 0 where
  pub content : A
  pub fresh : Bool

-- one whole list, and how it came about
pub record Layer (A : Type 0) : Type 0 where
  pub cells : List (Cell A)
  pub base : List A
  pub base_seams : ℕ
  pub cycle : ℕ
  pub end : ℕ
  pub seams : ℕ

-- what a cell holds
abbrev pub content_of : {A : Type 0} → Cell A → A
content_of c = c.content

-- the list of some cells
abbrev pub contents : {A : Type 0} → List (Cell A) → List A
contents cells = map content_of cells

-- a cell that isn't fresh
abbrev pub old_cell : {A : Type 0} → A → Cell A
old_cell a = record { content = a; fresh = false }

-- a cell that was just written
abbrev pub fresh_cell : {A : Type 0} → A → Cell A
fresh_cell a = record { content = a; fresh = true }

-- a list in cells that aren't fresh
abbrev pub old_cells : {A : Type 0} → List A → List (Cell A)
old_cells list = map old_cell list

-- the cells without their fresh marks
abbrev pub unmarked : {A : Type 0} → List (Cell A) → List (Cell A)
unmarked cells = old_cells (contents cells)

-- whether there is a cell, and it is fresh
abbrev pub is_fresh : {A : Type 0} → Option (Cell A) → Bool
is_fresh None = false
is_fresh (Some c) = c.fresh

-- the seams of a layer
abbrev pub seams_of : {A : Type 0} → Layer A → ℕ
seams_of l = l.seams

-- the seams of all these layers
abbrev pub total_seams : {A : Type 0} → List (Layer A) → ℕ
total_seams layers = sum_by seams_of layers

-- the layers, newest first, with the current one changed
abbrev pub with_current : {A : Type 0} → (Layer A → Layer A) → List (Layer A) → List (Layer A)
with_current f [] = []
with_current f (l ∷ ls) = f l ∷ ls

-- the layers, newest first, without the current one
abbrev pub without_current : {A : Type 0} → List (Layer A) → List (Layer A)
without_current [] = []
without_current (l ∷ ls) = ls

-- the cells of the current layer, none without a layer
abbrev pub current_cells : {A : Type 0} → List (Layer A) → List (Cell A)
current_cells [] = []
current_cells (l ∷ ls) = l.cells

-- the current list, empty without a layer
abbrev pub current_list : {A : Type 0} → List (Layer A) → List A
current_list layers = contents (current_cells layers)

-- the length of the current list
abbrev pub current_length : {A : Type 0} → List (Layer A) → ℕ
current_length layers = length (current_cells layers)

-- the base of the current layer
abbrev pub current_base : {A : Type 0} → List (Layer A) → List A
current_base [] = []
current_base (l ∷ ls) = l.base

-- the length of that base
abbrev pub current_base_length : {A : Type 0} → List (Layer A) → ℕ
current_base_length layers = length (current_base layers)

-- the seams of that base
abbrev pub current_base_seams : {A : Type 0} → List (Layer A) → ℕ
current_base_seams [] = 0
current_base_seams (l ∷ ls) = l.base_seams

-- the current cycle, 0 without a layer
abbrev pub current_cycle : {A : Type 0} → List (Layer A) → ℕ
current_cycle [] = 0
current_cycle (l ∷ ls) = l.cycle

-- the end of the current layer, 0 without one
abbrev pub current_end : {A : Type 0} → List (Layer A) → ℕ
current_end [] = 0
current_end (l ∷ ls) = l.end

-- the seams of the current layer, 0 without one
abbrev pub current_seams : {A : Type 0} → List (Layer A) → ℕ
current_seams [] = 0
current_seams (l ∷ ls) = l.seams
