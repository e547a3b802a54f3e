-- A loop is a deck (mode, rounding, pos, direction, the verb that waits, the verb that is held
-- down), the controls that are set, the number of what was refused, and its stack. pos is the place
-- of the next frame in the current list. The writing modes are Recording, Overdubbing, Multiplying,
-- Inserting, Replacing and Substituting: in them the current layer is open. In Off there is no
-- layer. Rounding says that a multiply or an insert goes on to its stop. The face of a loop is what
-- its verbs, its boundary and its values see of it: no frames.
-- The count of what was refused stays at 2147483647 once it is there.
-- "The loop" in docs/rules.md.
use Rattle.std.specs.Prelude.{ℕ, ◌+◌, min, Bool, true, false, not, length, Option, None, is_some}
use Rattle.sl_commands.specs.declared.Verb.{Verb}
use Rattle.sl_commands.specs.declared.Mode.{Mode}
use Rattle.sl_commands.specs.declared.Mode.TheVariants.{Off}
use Rattle.sl_commands.specs.declared.Held.{Held}
use Rattle.sl_commands.specs.declared.Face.{Face}
use Rattle.sl_base.specs.Limits.{max_value}
use Rattle.looper_rules.specs.Layers.{current_length, current_base_length, current_cycle}
use Rattle.looper_rules.specs.Stack.{Stack}
pub use Rattle.sl_commands.specs.Modes.{is_writing}

-- what a loop is doing
pub record Deck : Type 0 where
  pub mode : Mode
  pub rounding : Bool
  pub pos : ℕ
  pub backward : Bool
  pub waiting : Option Verb
  pub press : Option Held

-- what is set of a loop: thousandths, thousandths, 0 or 1, 0 to 3, a level
pub record Controls : Type 0 where
  pub feedback : ℕ
  pub wet : ℕ
  pub round : ℕ
  pub quantize : ℕ
  pub rec_thresh : ℕ

-- one loop
pub record Loop (A : Type 0) : Type 0 where
  pub deck : Deck
  pub controls : Controls
  pub refused : ℕ
  pub stack : Stack A

-- whether the mode is Off
abbrev pub is_off : Mode → Bool
is_off Off = true
is_off _ = false

-- the length of a loop's list
abbrev pub length_of : {A : Type 0} → Loop A → ℕ
length_of l = current_length l.stack.layers

-- the length of the base of its open layer
abbrev pub base_length_of : {A : Type 0} → Loop A → ℕ
base_length_of l = current_base_length l.stack.layers

-- the cycle of its list
abbrev pub cycle_of : {A : Type 0} → Loop A → ℕ
cycle_of l = current_cycle l.stack.layers

-- a deck at rest
abbrev pub new_deck : Mode → Deck
new_deck mode = record {
  mode = mode;
  rounding = false;
  pos = 0;
  backward = false;
  waiting =
      None;
  press = None;
}

-- the loop in another mode
abbrev pub in_mode : {A : Type 0} → Mode → Loop A → Loop A
in_mode mode l = record l { deck = record l.deck { mode = mode } }

-- the loop at another place
abbrev pub at_place : {A : Type 0} → ℕ → Loop A → Loop A
at_place pos l = record l { deck = record l.deck { pos = pos } }

-- the loop in another mode and at another place
abbrev pub in_mode_at : {A : Type 0} → Mode → ℕ → Loop A → Loop A
in_mode_at mode pos l = record l { deck = record l.deck { mode = mode; pos = pos } }

-- the loop in the other direction
abbrev pub turned : {A : Type 0} → Loop A → Loop A
turned l = record l { deck = record l.deck { backward = not l.deck.backward } }

-- the loop on its way to the stop
abbrev pub rounds : {A : Type 0} → Loop A → Loop A
rounds l = record l { deck = record l.deck { rounding = true } }

-- the loop with another stack
abbrev pub with_stack : {A : Type 0} → Stack A → Loop A → Loop A
with_stack s l = record l { stack = s }

-- one refusal more
abbrev pub refused_once : {A : Type 0} → Loop A → Loop A
refused_once l = record l { refused = min (l.refused + 1) max_value }

-- what is seen of a loop
abbrev pub face_of : {A : Type 0} → Loop A → Face
face_of l =
    record {
      mode = l.deck.mode;
      rounding = l.deck.rounding;
      pos = l.deck.pos;
      backward = l.deck.backward;
      length = length_of l;
      cycle = cycle_of l;
      base = base_length_of l;
      layers = length l.stack.layers;
      redo = length l.stack.redo;
      waiting = l.deck.waiting;
      press = l.deck.press;
      refused = l.refused;
      pinned = is_some l.stack.pin;
    }
