-- A frame or a command changes at most the current layer of a loop. All other layers stay as they
-- are: those below the current one, and the redo layers. They stand in a row by age: the redo
-- layers, the last one first, the current layer, and those below it. Undo and redo go along this
-- row. Closing an empty Recording takes the current layer out of it. An opening puts a new layer on
-- the current one, and drops the redo layers, all of them.
-- A frame outside a writing mode keeps every list, and so does one that ends WaitStart, but for the
-- layer that it opens.
-- "Layers" and "History: undo and redo" in docs/rules.md.
use Rattle.std.specs.Prelude.{◌≡◌, ◌⊎◌, ◌+◌, ◌≤◌, min, ⊤, List, [], ◌∷◌, ◌++◌, length}
use Rattle.sl_base.specs.Limits.{max_value}
use Rattle.looper_rules.specs.Layers.{Layer, without_current}
use Rattle.looper_rules.specs.Stack.{Stack}
use Rattle.looper_rules.specs.Loop.{Loop}
use Rattle.looper_rules.specs.Looper.{Track}

-- redo layers, the next one first, put before layers, newest first
abbrev pub in_a_row : {A : Type 0} → List (Layer A) → List (Layer A) → List (Layer A)
in_a_row [] layers = layers
in_a_row (r ∷ rs) layers = in_a_row rs (r ∷ layers)

-- all layers of a stack, by age
abbrev pub row_of : {A : Type 0} → Stack A → List (Layer A)
row_of s = in_a_row s.redo s.layers

-- the row is as before, but for the current layer, which may have changed or gone
pub record RowStays {A : Type 0} (old new : Stack A) : Type 0 where
  pub current : List (Layer A)
  pub at_most_one : length current ≤ min 1 (length old.layers)
  pub row : row_of new ≡ in_a_row old.redo (current ++ without_current old.layers)

-- a new layer stands on those of before, of which the current one may have changed or gone, and no
-- redo layer is left
pub record StaysBelowNew {A : Type 0} (old new : Stack A) : Type 0 where
  pub newest : Layer A
  pub current : List (Layer A)
  pub at_most_one : length current ≤ min 1 (length old.layers)
  pub layers : new.layers ≡ newest ∷ (current ++ without_current old.layers)
  pub redo : new.redo ≡ []

-- all layers but the current one stay as they are, but for the redo layers that an opening drops
abbrev pub OthersStay : {A : Type 0} → Stack A → Stack A → Type 0
OthersStay old new = RowStays old new ⊎ StaysBelowNew old new

-- on as many tracks, by index, all layers but the current one stay as they are
abbrev pub OthersStayOnAll : List Track → List Track → Type 0
OthersStayOnAll [] [] = ⊤
OthersStayOnAll (t ∷ ts) (u ∷ us) = OthersStay t.loop.stack u.loop.stack × OthersStayOnAll ts us
OthersStayOnAll _ _ = ⊥

-- layers, redo layers, tape and pin stay: nothing is written, opened or closed
pub record KeepsLists {A : Type 0} (old new : Stack A) : Type 0 where
  pub layers : new.layers ≡ old.layers
  pub redo : new.redo ≡ old.redo
  pub tape : new.tape ≡ old.tape
  pub pin : new.pin ≡ old.pin

-- one refusal more, and nothing else
pub record CountsRefusal {A : Type 0} (old new : Loop A) : Type 0 where
  pub refused : new.refused ≡ min (old.refused + 1) max_value
  pub deck : new.deck ≡ old.deck
  pub controls : new.controls ≡ old.controls
  pub stack : new.stack ≡ old.stack
