-- The closed layers of a loop and those that were undone. Their cells hold addresses on the tape.
-- Beside them stand the pieces of all of them, the oldest layer first and the redo layers behind:
-- undo and redo leave these as they are.
-- "Layers", "The stack" and "History: undo and redo" in docs/rules.md.
use Rattle.std.specs.Prelude.{◌≡◌, ◌≤◌, ℕ, List, [], ◌∷◌, ◌++◌, length, take, get_or}
use Rattle.looper_rules.specs.Layers.{Layer, contents, old_cells}
use Rattle.pieces.specs.Pieces.{Piece, Solid, addresses}

-- the layers, newest first; the redo layers, the next one first; the pieces of all, oldest first
pub record LayersOf : Type 0 where
  pub layers : List (Layer ℕ)
  pub redo : List (Layer ℕ)
  pub pieces : List (List Piece)

-- a closed layer of these addresses
abbrev pub closed_of : List ℕ → ℕ → ℕ → ℕ → Layer ℕ
closed_of list cycle end seams =
    record {
      cells = old_cells list;
      base = [];
      base_seams = 0;
      cycle = cycle;
      end = end;
      seams =
          seams;
    }

-- the list of a layer is that of some pieces, which are at most its seams
pub record IsPieced (l : Layer ℕ) : Type 0 where
  pub pieces : List Piece
  pub solid : Solid pieces
  pub same : addresses pieces ≡ contents l.cells
  pub few : length pieces ≤ l.seams

-- the pieces of the newest of these layers, none without one
abbrev pub newest_pieces : List (Layer ℕ) → List (List Piece) → List Piece
newest_pieces [] pieces = []
newest_pieces (l ∷ ls) pieces = get_or pieces (length ls) []

-- the pieces of the current layer
abbrev pub current_pieces : LayersOf → List Piece
current_pieces s = newest_pieces s.layers s.pieces

-- the current layer among the redo layers
abbrev pub undone_on : List (Layer ℕ) → List (Layer ℕ) → List (List Piece) → LayersOf
undone_on [] redo pieces = record { layers = []; redo = redo; pieces = pieces }
undone_on (l ∷ ls) redo pieces = record { layers = ls; redo = l ∷ redo; pieces = pieces }

-- one layer undone, or nothing without one
abbrev pub layers_undone : LayersOf → LayersOf
layers_undone s = undone_on s.layers s.redo s.pieces

-- the next redo layer among the layers
abbrev pub redone_on : List (Layer ℕ) → List (Layer ℕ) → List (List Piece) → LayersOf
redone_on layers [] pieces = record { layers = layers; redo = []; pieces = pieces }
redone_on layers (l ∷ ls) pieces = record { layers = l ∷ layers; redo = ls; pieces = pieces }

-- one layer redone, or nothing without one
abbrev pub layers_redone : LayersOf → LayersOf
layers_redone s = redone_on s.layers s.redo s.pieces

-- without redo layers
abbrev pub layers_kept : LayersOf → LayersOf
layers_kept s = record { layers = s.layers; redo = []; pieces = take (length s.layers) s.pieces }

-- with one layer more, of these pieces
abbrev pub layers_added : List Piece → ℕ → ℕ → ℕ → LayersOf → LayersOf
layers_added ps cycle end seams s =
    record {
      layers = closed_of (addresses ps) cycle end seams ∷ s.layers;
      redo = [];
      pieces = s.pieces ++ ps ∷ [];
    }
