-- What layers that share a tape keep, in terms of addresses.
-- A cell's frame is the pool's frame at its address. All addresses are below the tape length; a
-- closed layer's are below its end, and ends never fall from older to newer. A fresh cell's address
-- stands nowhere else. The pinned list's addresses are below the pin. A layer is made of at most as
-- many pieces as it has seams. The tape has exactly the chunks that it fills.
-- "Layers", "The stack" and "Room" in docs/rules.md.
use Rattle.std.specs.Prelude.{◌≡◌, ◌<◌, ℕ, Bool, true, false, IsTrue, List, slice_get, get_or}
use Rattle.std.specs.List.{AllByRecursion}
use Rattle.looper_rules.specs.Layers.{Layer, is_fresh, current_end, current_cells, current_list, current_length, without_current}
use Rattle.looper_rules.specs.States.{AreOrdered}
use Rattle.loop_tape.specs.Tapes.{IsWhole}
use Rattle.undo_stack.specs.Layered.{IsPieced}
use Rattle.layer_memory.specs.Seen.{Held}
use Rattle.layer_memory.specs.Kept.{Ordered, GoesOn, PinWithin, StackBelow, Alone}

-- the layers that are closed
abbrev pub closed_layers : Bool → List (Layer ℕ) → List (Layer ℕ)
closed_layers true layers = without_current layers
closed_layers false layers = layers

pub record IsShared (h : Held) : Type 0 where
  pub tape : h.stack.tape ≡ h.tape.len
  pub whole : IsWhole h.tape
  pub low : StackBelow h.tape.len h.stack
  pub order : AreOrdered h.stack.layers
  pub closed : Ordered (closed_layers h.writing h.stack.layers)
  pub redo : GoesOn h.tape.len (current_end h.stack.layers) h.stack.redo
  pub pin : PinWithin h.tape.len h.stack.pin
  pub alone : IsTrue h.writing → (place : ℕ) → place < current_length h.stack.layers →
      IsTrue (is_fresh (slice_get (current_cells h.stack.layers) place)) →
      Alone place (get_or (current_list h.stack.layers) place 0) h.stack
  pub pieces : AllByRecursion IsPieced h.stack.layers
  pub redo_pieces : AllByRecursion IsPieced h.stack.redo
