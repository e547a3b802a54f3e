-- Layers as ranges of one list of pieces, oldest first, each behind the one before it.
-- "Pieces" in docs/rules.md.
use Rattle.std.specs.Prelude.{◌≡◌, ◌≤◌, ℕ, ◌+◌, List, [], ◌∷◌, map, take, drop, length, reverse}
use Rattle.std.specs.List.{AllByRecursion}
use Rattle.std.specs.Vec.{vec_capacity}
use Rattle.sl_base.specs.Limits.{max_layers, max_list_frames, max_seams}
use Rattle.looper_rules.specs.Layers.{Layer}
use Rattle.pieces.specs.Pieces.{Piece, Solid, addresses}
use Rattle.pieces.specs.Splitting.{IsHint}
use Rattle.undo_stack.specs.Layered.{LayersOf, closed_of, current_pieces}
use Rattle.undo_stack.specs.declared.stack.Mark.{Mark}
use Rattle.undo_stack.specs.declared.stack.LayerStack.TheInside.{Inside}

-- the pieces of a range
abbrev pub range : List Piece → Mark → List Piece
range ps m = take m.count (drop m.start ps)

-- the layer of a range
abbrev pub layer_of : List Piece → Mark → Layer ℕ
layer_of ps m = closed_of (addresses (range ps m)) m.cycle m.end m.seams

-- the layers of ranges, of which so many aren't undone
abbrev pub layers_at : List Piece → List Mark → ℕ → LayersOf
layers_at ps ms n =
    record {
      layers = reverse (map (layer_of ps) (take n ms));
      redo = map (layer_of ps) (drop n ms);
      pieces = map (range ps) ms;
    }

-- what a stack of layers is seen as
abbrev pub layers_of : Inside → LayersOf
layers_of s = layers_at s.pieces.items s.marks.items s.layers

-- each range begins where the one before it ends, and has at most as many pieces as seams
abbrev pub Laid : ℕ → ℕ → List Mark → Type 0
Laid from to [] = from ≡ to
Laid from to (m ∷ ms) = (m.start ≡ from) × ((m.count ≤ m.seams) × Laid (from + m.count) to ms)

-- the seams of all ranges
abbrev pub seams_in : List Mark → ℕ
seams_in [] = 0
seams_in (m ∷ ms) = m.seams + seams_in ms

-- the length that is kept of each layer is that of its list, and is within the limit
abbrev pub IsMeasured : List Piece → Mark → Type 0
IsMeasured ps m = (m.length ≡ length (addresses (range ps m))) × (m.length ≤ max_list_frames)

-- what holds of the ranges
pub record AreRanges (ps : List Piece) (ms : List Mark) (n : ℕ) : Type 0 where
  pub laid : Laid 0 (length ps) ms
  pub solid : Solid ps
  pub within : n ≤ length ms
  pub count : length ms ≤ max_layers
  pub seams : seams_in ms ≤ max_seams
  pub measured : AllByRecursion (IsMeasured ps) ms

-- what always holds
pub record IsStack (s : Inside) : Type 0 where
  pub holds : AreRanges s.pieces.items s.marks.items s.layers
  pub room : max_seams ≤ vec_capacity s.pieces
  pub marks_room : max_layers ≤ vec_capacity s.marks
  pub hint : IsHint (current_pieces (layers_of s)) s.hint.piece s.hint.begin
