-- Closing the open layer clears its fresh marks, takes its base away, and sets its end to the tape
-- length. No streak goes on and rounding ends. Then
-- - in Recording with length 0 the layer is removed, pos is 0, and the mode is Off, or Playing
--   where a layer is left;
-- - in Recording otherwise the cycle is the length, pos is 0 and the mode Playing (a layer that
--   began empty has cycle 0 until it is closed);
-- - in Multiplying, where pos is greater than the base's length, the list is cut to its first pos
--   frames; pos becomes pos mod the length and the mode is Playing;
-- - in the other modes the mode is Playing.
-- The stop of Multiplying is reached where pos is a multiple of the cycle, that of Inserting where
-- the length less the base's length is one.
-- "Closing" in docs/rules.md.
use Rattle.std.specs.Prelude.{ℕ, ◌-◌, ◌%◌, Bool, true, false, List, [], Option, Some, None, length, take, nat_lt, nat_le, ◌==◌, if◌then◌else◌}
use Rattle.sl_commands.specs.declared.Mode.{Mode}
use Rattle.sl_commands.specs.declared.Mode.TheVariants.{Off, Recording, Playing, Multiplying, Inserting}
use Rattle.looper_rules.specs.Layers.{Cell, Layer, unmarked, with_current, without_current, current_length}
use Rattle.looper_rules.specs.Stack.{Stack}
use Rattle.looper_rules.specs.Loop.{Deck, Loop, length_of, base_length_of, cycle_of}

-- the cells, or so many of them from the first on
abbrev pub cut_cells : {A : Type 0} → Option ℕ → List (Cell A) → List (Cell A)
cut_cells None cells = cells
cut_cells (Some count) cells = take count cells

-- the cycle of a layer that closes with this length
abbrev pub closing_cycle : ℕ → ℕ → ℕ
closing_cycle cycle len = if cycle == 0 then len else cycle

-- the layer closed with these cells, at this tape length
abbrev pub closed_layer : {A : Type 0} → List (Cell A) → ℕ → Layer A → Layer A
closed_layer cells tape l =
    record {
      cells = unmarked cells;
      base = [];
      base_seams = 0;
      cycle = closing_cycle l.cycle (length cells);
      end = tape;
      seams = l.seams;
    }

-- the layer closed with so many of its cells
abbrev pub finished_layer : {A : Type 0} → Option ℕ → ℕ → Layer A → Layer A
finished_layer cut tape l = closed_layer (cut_cells cut l.cells) tape l

-- the stack with its open layer closed
abbrev pub finished : {A : Type 0} → Option ℕ → Stack A → Stack A
finished cut s =
    record s { layers = with_current (finished_layer cut s.tape) s.layers; streak = None }

-- the stack with its open layer removed
abbrev pub dropped : {A : Type 0} → Stack A → Stack A
dropped s = record s { layers = without_current s.layers; streak = None }

-- the deck of a loop that has closed its layer
abbrev pub closed_deck : Mode → ℕ → Deck → Deck
closed_deck mode pos d = record d { mode = mode; rounding = false; pos = pos }

-- a loop that closes with this stack, in this mode, at this place
abbrev pub closes_as : {A : Type 0} → Mode → ℕ → Stack A → Loop A → Loop A
closes_as mode pos s l = record l { deck = closed_deck mode pos l.deck; stack = s }

-- a Recording closed: whether it has length 0, and whether it is the only layer
abbrev pub closed_recording : {A : Type 0} → Bool → Bool → Loop A → Loop A
closed_recording true true l = closes_as Off 0 (dropped l.stack) l
closed_recording true false l = closes_as Playing 0 (dropped l.stack) l
closed_recording false single l = closes_as Playing 0 (finished None l.stack) l

-- where a Multiplying at this place, over a base of this length, cuts its list
abbrev pub multiply_cut : ℕ → ℕ → Option ℕ
multiply_cut pos base = if nat_lt base pos then Some pos else None

-- a Multiplying closed with this stack
abbrev pub closed_multiplying : {A : Type 0} → Stack A → Loop A → Loop A
closed_multiplying s l = closes_as Playing (l.deck.pos % current_length s.layers) s l

-- a loop in this writing mode with its layer closed
abbrev pub closed_from : {A : Type 0} → Mode → Loop A → Loop A
closed_from Recording l = closed_recording (length_of l == 0) (nat_le (length l.stack.layers) 1) l
closed_from Multiplying l =
    closed_multiplying (finished (multiply_cut l.deck.pos (base_length_of l)) l.stack) l
closed_from _ l = closes_as Playing l.deck.pos (finished None l.stack) l

-- a loop in a writing mode with its layer closed
abbrev pub closed : {A : Type 0} → Loop A → Loop A
closed l = closed_from l.deck.mode l

-- whether a multiply or an insert is at its stop
abbrev pub at_stop_in : {A : Type 0} → Mode → Loop A → Bool
at_stop_in Multiplying l = l.deck.pos % cycle_of l == 0
at_stop_in Inserting l = (length_of l - base_length_of l) % cycle_of l == 0
at_stop_in _ l = false

abbrev pub at_stop : {A : Type 0} → Loop A → Bool
at_stop l = at_stop_in l.deck.mode l
