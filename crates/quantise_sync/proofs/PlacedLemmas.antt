-- The faces of loops are placed.
use Rattle.std.proofs.Common.{◌≡◌, ℕ, ◌≤◌, ◌<◌, Bool, true, false, ◌&&◌, List, [], ◌∷◌, length, arith, nat_le, nat_lt}
use Rattle.std.specs.Prelude.{IsTrue}
use Rattle.std.proofs.lemmas.Bool.{lt-ltb, le-leb, and_from}
use Rattle.sl_commands.specs.declared.Mode.{Mode}
use Rattle.sl_commands.specs.declared.Mode.TheVariants.{Off, WaitStart, Recording, Playing, Overdubbing, Multiplying, Inserting, Replacing, Muted, OneShot, Substituting, Paused}
use Rattle.looper_rules.specs.Layers.{Layer, current_length, current_base_length}
use Rattle.looper_rules.specs.Stack.{Stack}
use Rattle.looper_rules.specs.Loop.{Loop, face_of}
use Rattle.looper_rules.specs.Boundaries.{is_running}
use Rattle.looper_rules.specs.States.{HasCurrent, IsOpenOver, InMode, IsLoop}
use Rattle.quantise_sync.specs.Distances.{is_placed_in, IsPlacedWhereRunning}

-- the base of an open layer isn't empty
base_is_some : {A : Type 0} (layers : List (Layer A)) → HasCurrent IsOpenOver layers →
    0 < current_base_length layers
base_is_some [] h = absurd h
base_is_some (l ∷ ls) h = let some = h.0.base_not_empty in omega arith

placed_in : {A : Type 0} (mode : Mode) (l : Loop A) → InMode mode l.stack.layers l.stack.redo
    l.deck.pos l.deck.backward → IsTrue (is_running mode) → is_placed_in mode (face_of l) ≡ true
placed_in Playing l h runs = lt-ltb l.deck.pos (current_length l.stack.layers) h.0.1
placed_in Muted l h runs = lt-ltb l.deck.pos (current_length l.stack.layers) h.0.1
placed_in OneShot l h runs = lt-ltb l.deck.pos (current_length l.stack.layers) h.0.1
placed_in Overdubbing l h runs = lt-ltb l.deck.pos (current_length l.stack.layers) h.2
placed_in Replacing l h runs = lt-ltb l.deck.pos (current_length l.stack.layers) h.2
placed_in Substituting l h runs = lt-ltb l.deck.pos (current_length l.stack.layers) h.2
placed_in Inserting l h runs = lt-ltb l.deck.pos (current_length l.stack.layers) h.0.2
placed_in Multiplying l h runs =
    and_from _ _ (le-leb l.deck.pos (current_length l.stack.layers) h.2)
    (lt-ltb 0 (current_base_length l.stack.layers) (base_is_some l.stack.layers h.0))
placed_in Off l h runs = cc
placed_in WaitStart l h runs = cc
placed_in Recording l h runs = cc
placed_in Paused l h runs = cc

-- the face of a loop is placed where it is running
pub loop_is_placed : {A : Type 0} (l : Loop A) → IsLoop l → IsPlacedWhereRunning (face_of l)
loop_is_placed l h runs = placed_in l.deck.mode l h.in_mode runs
