-- What holds of every loop and every looper that a run reaches.
-- A closed layer has a list of 1 to 16777216 frames, none fresh, no base, and a cycle of 1 to its
-- length. In a writing mode the current layer is open, the others are closed, and there are no redo
-- layers. In every mode but Off, WaitStart and Recording the list isn't empty, its cycle is at
-- least 1, and pos lies below its length; in Multiplying pos may also be the length. The same holds
-- in WaitStart where there is a layer. In Off there is no layer, and pos is 0 there and in
-- WaitStart without a layer.
-- In Recording pos is the length and the cycle is 0. The base of an open layer isn't longer than
-- its list, and in another writing mode than Recording it isn't empty. In Recording, Multiplying
-- and Inserting the direction is forward. A streak goes on in a writing mode alone, and then the
-- next write is the one that continues it.
-- Layers and redo layers together are at most 256, with at most 65536 seams; each end and the pin
-- are at most the tape length. No layer ends before the one below it, and the redo layers, in the
-- order in which they come back, go on so from the current one: so an opening can take the tape
-- back to the current layer's end. What all tapes use is at most the chunks. A pin stands exactly
-- where someone asked for a save. Rate, controls and gains lie in their ranges, and no press is
-- later than the frame.
-- "States: what always holds" in docs/rules.md.
use Rattle.std.specs.Prelude.{◌≡◌, ℕ, ◌+◌, ◌≤◌, ◌<◌, ⊤, Bool, false, IsTrue, List, [], ◌∷◌, length, map, Option, Some, None, is_some}
use Rattle.std.specs.List.{AllByRecursion}
use Rattle.sl_commands.specs.declared.Mode.{Mode}
use Rattle.sl_commands.specs.declared.Mode.TheVariants.{Off, WaitStart, Recording, Playing, Overdubbing, Multiplying, Inserting, Replacing, Muted, OneShot, Substituting, Paused}
use Rattle.sl_commands.specs.declared.How.{How}
use Rattle.sl_commands.specs.declared.How.TheVariants.{Forward, Backward, Insert, Append}
use Rattle.sl_commands.specs.declared.Held.{Held}
use Rattle.sl_commands.specs.Settings.{are_globals, is_loop_count, is_rate}
use Rattle.sl_base.specs.Limits.{max_layers, max_seams, max_value, max_list_frames}
use Rattle.looper_rules.specs.Layers.{Layer, unmarked, total_seams, current_length, current_end}
use Rattle.looper_rules.specs.Stack.{Stack, LastWrite, pinned_tape}
use Rattle.looper_rules.specs.Room.{used}
use Rattle.looper_rules.specs.Loop.{Loop}
use Rattle.looper_rules.specs.LoopFrame.{how_in}
use Rattle.looper_rules.specs.Values.{AreControls}
use Rattle.looper_rules.specs.Looper.{Track, Looper, tape_of}
use Rattle.looper_rules.specs.Saves.{is_pinned}

-- a closed layer
pub record IsClosed {A : Type 0} (l : Layer A) : Type 0 where
  pub not_empty : 1 ≤ length l.cells
  pub not_fresh : l.cells ≡ unmarked l.cells
  pub no_base : l.base ≡ []
  pub no_base_seams : l.base_seams ≡ 0
  pub cycle_from : 1 ≤ l.cycle
  pub cycle_to : l.cycle ≤ length l.cells

-- the open layer of a Recording
pub record IsRecorded {A : Type 0} (l : Layer A) : Type 0 where
  pub no_base : l.base ≡ []
  pub no_base_seams : l.base_seams ≡ 0
  pub no_cycle : l.cycle ≡ 0

-- the open layer of another writing mode
pub record IsOpenOver {A : Type 0} (l : Layer A) : Type 0 where
  pub base_not_empty : 1 ≤ length l.base
  pub base_within : length l.base ≤ length l.cells
  pub cycle_from : 1 ≤ l.cycle
  pub cycle_to : l.cycle ≤ length l.base

-- each of these layers is closed
abbrev pub AreClosed : {A : Type 0} → List (Layer A) → Type 0
AreClosed layers = AllByRecursion IsClosed layers

-- there is a current layer of a kind, and the others are closed
abbrev pub HasCurrent : {A : Type 0} → (Layer A → Type 0) → List (Layer A) → Type 0
HasCurrent Kind [] = ⊥
HasCurrent Kind (l ∷ ls) = Kind l × AreClosed ls

-- the layers and pos of a loop whose list can be played
abbrev pub ArePlayable : {A : Type 0} → List (Layer A) → ℕ → Type 0
ArePlayable layers pos = AreClosed layers × (pos < current_length layers)

-- the layers and pos in Off: none, and pos is 0
abbrev pub AreNone : {A : Type 0} → List (Layer A) → ℕ → Type 0
AreNone layers pos = (layers ≡ []) × (pos ≡ 0)

-- the layers and pos in WaitStart: as in Off, or they can be played
abbrev pub AreWaiting : {A : Type 0} → List (Layer A) → ℕ → Type 0
AreWaiting [] pos = pos ≡ 0
AreWaiting (l ∷ ls) pos = ArePlayable (l ∷ ls) pos

-- the layers, redo layers, pos and direction of a writing mode over a list
abbrev pub AreWritten : {A : Type 0} → List (Layer A) → List (Layer A) → ℕ → Type 0
AreWritten layers redo pos = HasCurrent IsOpenOver layers × (redo ≡ [])
    × (pos < current_length layers)

-- what a mode says of layers, redo layers, pos and direction
abbrev pub InMode : {A : Type 0} → Mode → List (Layer A) → List (Layer A) → ℕ → Bool → Type 0
InMode Off layers redo pos backward = AreNone layers pos × AreClosed redo
InMode WaitStart layers redo pos backward = AreWaiting layers pos × AreClosed redo
InMode Recording layers redo pos backward = HasCurrent IsRecorded layers × (redo ≡ [])
    × (pos ≡ current_length layers) × (backward ≡ false)
InMode Overdubbing layers redo pos backward = AreWritten layers redo pos
InMode Replacing layers redo pos backward = AreWritten layers redo pos
InMode Substituting layers redo pos backward = AreWritten layers redo pos
InMode Inserting layers redo pos backward = AreWritten layers redo pos × (backward ≡ false)
InMode Multiplying layers redo pos backward = HasCurrent IsOpenOver layers × (redo ≡ [])
    × (pos ≤ current_length layers) × (backward ≡ false)
InMode Playing layers redo pos backward = ArePlayable layers pos × AreClosed redo
InMode Muted layers redo pos backward = ArePlayable layers pos × AreClosed redo
InMode OneShot layers redo pos backward = ArePlayable layers pos × AreClosed redo
InMode Paused layers redo pos backward = ArePlayable layers pos × AreClosed redo

-- pos is the place behind a write in this manner
abbrev pub IsBehind : How → ℕ → ℕ → Type 0
IsBehind Forward place pos = pos ≡ place + 1
IsBehind Backward place pos = place ≡ pos + 1
IsBehind Insert place pos = pos ≡ place + 1
IsBehind Append place pos = pos ≡ place + 1

-- the last write of a streak is the one before the next in this mode, at this pos and in this
-- direction
abbrev pub GoesOn : Option LastWrite → Mode → ℕ → Bool → Type 0
GoesOn None mode pos backward = ⊤
GoesOn (Some last) mode pos backward = (last.how ≡ how_in mode backward)
    × IsBehind last.how last.place pos

-- a streak goes on in a writing mode alone, as its last write says
abbrev pub IsStreak : Mode → Option LastWrite → ℕ → Bool → Type 0
IsStreak Recording streak pos backward = GoesOn streak Recording pos backward
IsStreak Overdubbing streak pos backward = GoesOn streak Overdubbing pos backward
IsStreak Multiplying streak pos backward = GoesOn streak Multiplying pos backward
IsStreak Inserting streak pos backward = GoesOn streak Inserting pos backward
IsStreak Replacing streak pos backward = GoesOn streak Replacing pos backward
IsStreak Substituting streak pos backward = GoesOn streak Substituting pos backward
IsStreak _ streak pos backward = streak ≡ None

-- each of these layers has at most 16777216 frames, and its end is at most the tape length
abbrev pub AreWithin : {A : Type 0} → ℕ → List (Layer A) → Type 0
AreWithin tape layers =
    AllByRecursion (λ l. (length l.cells ≤ max_list_frames) × (l.end ≤ tape)) layers

-- no layer ends before the one below it
abbrev pub AreOrdered : {A : Type 0} → List (Layer A) → Type 0
AreOrdered [] = ⊤
AreOrdered (l ∷ ls) = (current_end ls ≤ l.end) × AreOrdered ls

-- redo layers whose ends go on from this one
abbrev pub GoOnFrom : {A : Type 0} → ℕ → List (Layer A) → Type 0
GoOnFrom end [] = ⊤
GoOnFrom end (l ∷ ls) = (end ≤ l.end) × GoOnFrom l.end ls

-- the limits of a stack, and the order of its ends
pub record IsStack {A : Type 0} (s : Stack A) : Type 0 where
  pub layers_within : AreWithin s.tape s.layers
  pub redo_within : AreWithin s.tape s.redo
  pub pin_within : pinned_tape s.pin ≤ s.tape
  pub count : length s.layers + length s.redo ≤ max_layers
  pub seams : total_seams s.layers + total_seams s.redo ≤ max_seams
  pub order : AreOrdered s.layers
  pub redo_order : GoOnFrom (current_end s.layers) s.redo

-- what always holds of a loop
pub record IsLoop {A : Type 0} (l : Loop A) : Type 0 where
  pub in_mode : InMode l.deck.mode l.stack.layers l.stack.redo l.deck.pos l.deck.backward
  pub streak : IsStreak l.deck.mode l.stack.streak l.deck.pos l.deck.backward
  pub stack : IsStack l.stack
  pub refused : l.refused ≤ max_value

-- no press is later than this frame
abbrev pub IsPressBefore : ℕ → Option Held → Type 0
IsPressBefore frame None = ⊤
IsPressBefore frame (Some press) = press.frame ≤ frame

-- what always holds of a track, when so many frames are done
pub record IsTrack (frame : ℕ) (t : Track) : Type 0 where
  pub loop : IsLoop t.loop
  pub controls : AreControls t.loop.controls
  pub gain : t.gain ≤ 1000
  pub press : IsPressBefore frame t.loop.deck.press
  pub asker : is_some t.asker ≡ is_pinned t.loop

-- what always holds of a looper, when so many frames are done
pub record IsLooper (frame : ℕ) (l : Looper) : Type 0 where
  pub tracks : AllByRecursion (IsTrack frame) l.tracks
  pub rate : IsTrue (is_rate l.rate)
  pub count : IsTrue (is_loop_count (length l.tracks))
  pub globals : IsTrue (are_globals (length l.tracks) l.globals)
  pub dry : l.dry ≤ 1000
  pub chunks : used (map tape_of l.tracks) ≤ l.chunks
