-- Opening adds a layer. It continues the tape at t, the greater of the current layer's end (0
-- without a layer) and the pin (0 without one). It is refused, in this order, where
-- - there are 256 layers,
-- - the total seams together with the new layer's are more than 65534,
-- - a tape of length t has no room.
-- A refusal changes nothing. Otherwise the redo layers are dropped, the tape length becomes t, and
-- no streak goes on. A layer that begins empty has no cells, no base, 0 seams and cycle 0. Any
-- other has the current list, not fresh, that list as its base, and the seams and the cycle of the
-- layer below.
-- "Opening" in docs/rules.md.
use Rattle.std.specs.Prelude.{ℕ, ◌+◌, ◌-◌, max, Bool, true, false, List, [], ◌∷◌, None, length, nat_lt, nat_le, if◌then◌else◌}
use Rattle.sl_commands.specs.declared.Started.{Started}
use Rattle.sl_commands.specs.declared.Started.TheVariants.{Ok, Layers, Seams, Room}
use Rattle.sl_base.specs.Limits.{max_layers, max_seams}
use Rattle.looper_rules.specs.Layers.{Layer, contents, old_cells, total_seams, current_end, current_seams}
use Rattle.looper_rules.specs.Stack.{Stack, pinned_tape}
use Rattle.looper_rules.specs.Room.{has_room}

-- the tape length at which a new layer goes on
abbrev pub opening_tape : {A : Type 0} → Stack A → ℕ
opening_tape s = max (current_end s.layers) (pinned_tape s.pin)

-- the seams with which a new layer begins
abbrev pub opening_seams : {A : Type 0} → Bool → List (Layer A) → ℕ
opening_seams empty layers = if empty then 0 else current_seams layers

-- the first refusal that holds: too many layers, too many seams, no room
abbrev pub first_refusal : Bool → Bool → Bool → Started
first_refusal true seams room = Layers
first_refusal false true room = Seams
first_refusal false false true = Ok
first_refusal false false false = Room

-- what becomes of an opening: of an empty layer or of a copy, where the loop reaches so many chunks
abbrev pub opening : {A : Type 0} → ℕ → Bool → Stack A → Started
opening reach empty s =
    first_refusal
    (nat_le max_layers (length s.layers))
    (nat_lt (max_seams - 2) (total_seams s.layers + opening_seams empty s.layers))
    (has_room reach (opening_tape s))

-- an open layer with no cells
abbrev pub empty_layer : {A : Type 0} → ℕ → Layer A
empty_layer tape =
    record { cells = []; base = []; base_seams = 0; cycle = 0; end = tape; seams = 0 }

-- an open layer that begins as another is
abbrev pub copied_layer : {A : Type 0} → ℕ → Layer A → Layer A
copied_layer tape below =
    record {
      cells = old_cells (contents below.cells);
      base = contents below.cells;
      base_seams = below.seams;
      cycle = below.cycle;
      end = tape;
      seams = below.seams;
    }

-- the layer that an opening adds to these
abbrev pub new_layer : {A : Type 0} → Bool → ℕ → List (Layer A) → Layer A
new_layer true tape layers = empty_layer tape
new_layer false tape [] = empty_layer tape
new_layer false tape (below ∷ ls) = copied_layer tape below

-- the stack once a layer is opened
abbrev pub opened : {A : Type 0} → Bool → Stack A → Stack A
opened empty s =
    let tape = opening_tape s
    in record {
      layers = new_layer empty tape s.layers ∷ s.layers;
      redo = [];
      tape = tape;
      pin = s.pin;
      streak = None;
    }
