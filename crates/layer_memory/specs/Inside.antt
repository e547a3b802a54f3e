-- What layers over a tape are seen as, of their inside: the closed layers, the layer that is being
-- written, and the pin. The open layer's base and its seams are the list and the seams of the
-- newest closed layer, where it is opened over that.
-- "Layers" in docs/rules.md.
use Rattle.std.specs.Prelude.{◌≡◌, ◌≤◌, ◌<◌, ℕ, ◌+◌, ⊤, Bool, true, false, List, [], ◌∷◌, length, Option, Some, None, is_some}
use Rattle.sl_base.specs.Limits.{max_layers, max_seams}
use Rattle.looper_rules.specs.Layers.{Layer, total_seams, current_list, current_end, current_seams}
use Rattle.looper_rules.specs.Stack.{Pin, LastWrite}
use Rattle.pieces.specs.Pieces.{addresses}
use Rattle.loop_tape.specs.Tapes.{TapeOf}
use Rattle.lazy_fill.specs.Fills.{FillOf}
use Rattle.undo_stack.specs.Layered.{LayersOf}
use Rattle.layer_memory.specs.Seen.{Held}
use Rattle.lazy_fill.specs.Marks.{marked}
use Rattle.layer_memory.specs.Kept.{Ordered, GoesOn, PinWithin}
use Rattle.layer_memory.specs.declared.layers.Top.{Top}
use Rattle.layer_memory.specs.declared.layers.Layers.TheInside.{Inside}

-- the base of an open layer
abbrev pub base_on : Bool → List (Layer ℕ) → List ℕ
base_on true closed = current_list closed
base_on false closed = []

-- the seams of its base
abbrev pub base_seams_on : Bool → List (Layer ℕ) → ℕ
base_seams_on true closed = current_seams closed
base_seams_on false closed = 0

-- the open layer
abbrev pub open_layer : Top → FillOf → List (Layer ℕ) → Layer ℕ
open_layer t f closed =
    record {
      cells = marked f.floor f.cells;
      base = base_on t.over closed;
      base_seams = base_seams_on t.over closed;
      cycle = t.cycle;
      end = t.end;
      seams = f.seams;
    }

-- all layers, with the open one where there is one
abbrev pub stacked : Option Top → FillOf → List (Layer ℕ) → List (Layer ℕ)
stacked None f closed = closed
stacked (Some t) f closed = open_layer t f closed ∷ closed

-- the streak of the open layer
abbrev pub streak_on : Option Top → FillOf → Option LastWrite
streak_on None f = None
streak_on (Some t) f = f.streak

-- the pin with its list
abbrev pub pin_of : Option ℕ → List ℕ → Option (Pin ℕ)
pin_of None list = None
pin_of (Some tape) list = Some (record { tape = tape; list = list })

-- layers as they are seen, of their parts
abbrev pub held_by : TapeOf → LayersOf → FillOf → Option Top → Option ℕ → List ℕ → Held
held_by tape closed f top pin pinned =
    record {
      stack = record {
        layers = stacked top f closed.layers;
        redo = closed.redo;
        tape = tape.len;
        pin = pin_of pin pinned;
        streak = streak_on top f;
      };
      writing = is_some top;
      tape = tape;
    }

-- layers as they are seen, of their inside
abbrev pub held_of : Inside → Held
held_of s = held_by s.tape s.closed s.fill s.top s.pin (addresses s.pinned.items)

-- what holds of an open layer
pub record IsOpen (tape : ℕ) (closed : LayersOf) (f : FillOf) (t : Top) (pin : Option ℕ)
    (pinned : List ℕ) : Type 0 where
  pub next : f.next ≡ tape
  pub no_redo : closed.redo ≡ []
  pub end : current_end closed.layers ≤ t.end
  pub floor : t.end ≤ f.floor
  pub pin_within : PinWithin f.floor (pin_of pin pinned)
  pub count : length closed.layers < max_layers
  pub few : total_seams closed.layers + f.seams ≤ max_seams

-- what holds where a layer may be open
abbrev pub MayBeOpen : ℕ → LayersOf → FillOf → Option Top → Option ℕ → List ℕ → Type 0
MayBeOpen tape closed f None pin pinned = ⊤
MayBeOpen tape closed f (Some t) pin pinned = IsOpen tape closed f t pin pinned

-- what always holds of layers, of their parts
pub record Holds (tape : ℕ) (closed : LayersOf) (f : FillOf) (top : Option Top) (pin : Option ℕ)
    (pinned : List ℕ) (seams : ℕ) : Type 0 where
  pub ordered : Ordered closed.layers
  pub goes_on : GoesOn tape (current_end closed.layers) closed.redo
  pub pin_within : PinWithin tape (pin_of pin pinned)
  pub opened : MayBeOpen tape closed f top pin pinned
  pub total : seams ≡ total_seams (stacked top f closed.layers)

-- what always holds of layers, of their inside
abbrev pub IsHeld : Inside → Type 0
IsHeld s = Holds s.tape.len s.closed s.fill s.top s.pin (addresses s.pinned.items) s.seams
    × (s.pinned.room ≡ max_seams)
