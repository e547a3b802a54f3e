-- What a cell holds is left open, so a stack of one kind becomes one of another where each content
-- is given another: where layers share a tape, a stack of addresses becomes one of the frames at
-- these addresses.
-- Numbers, fresh marks, the pin's tape length and the streak stay.
-- "Layers" in docs/rules.md.
use Rattle.std.specs.Prelude.{List, map, Option, Some, None}
use Rattle.looper_rules.specs.Layers.{Cell, Layer}
use Rattle.looper_rules.specs.Stack.{Stack, Pin}

-- the cell with another content
abbrev pub cell_map : {A B : Type 0} → (A → B) → Cell A → Cell B
cell_map f c = record { content = f c.content; fresh = c.fresh }

-- the layer with other contents
abbrev pub layer_map : {A B : Type 0} → (A → B) → Layer A → Layer B
layer_map f l =
    record {
      cells = map (cell_map f) l.cells;
      base = map f l.base;
      base_seams = l.base_seams;
      cycle = l.cycle;
      end = l.end;
      seams = l.seams;
    }

-- the pin with other contents
abbrev pub pin_map : {A B : Type 0} → (A → B) → Option (Pin A) → Option (Pin B)
pin_map f None = None
pin_map f (Some p) = Some (record { tape = p.tape; list = map f p.list })

-- the stack with other contents
abbrev pub stack_map : {A B : Type 0} → (A → B) → Stack A → Stack B
stack_map f s =
    record {
      layers = map (layer_map f) s.layers;
      redo = map (layer_map f) s.redo;
      tape = s.tape;
      pin = pin_map f s.pin;
      streak = s.streak;
    }
