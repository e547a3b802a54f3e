-- A track keeps what it has to keep where a save pins its loop, and where a release ends the save.
use Rattle.std.proofs.Common.{◌≡◌, ℕ, ◌≤◌, Bool, true, false, List, [], ◌∷◌, Option, Some, None, refl, sym, ◌∙◌, subst, arith}
use Rattle.sl_commands.specs.declared.Mode.{Mode}
use Rattle.sl_commands.specs.declared.Mode.TheVariants.{Off, WaitStart, Recording, Overdubbing, Multiplying, Inserting, Replacing, Substituting}
use Rattle.looper_rules.specs.Layers.{Layer, total_seams, with_current, current_length, current_end}
use Rattle.looper_rules.specs.Loop.{Loop, with_stack}
use Rattle.looper_rules.specs.Looper.{Asker, Track, tape_of}
use Rattle.looper_rules.specs.Saves.{unmarked_layer, pinned, unpinned, pinned_for, freed, loop_asker, session_asker, freed_if, loop_released, session_released}
use Rattle.looper_rules.specs.States.{IsClosed, IsRecorded, IsOpenOver, AreClosed, HasCurrent, ArePlayable, AreWaiting, AreWritten, InMode, AreWithin, AreOrdered, GoOnFrom}
use Rattle.looper_rules.specs.Reached.{Unchanged, Keeps}
use Rattle.looper_laws.proofs.Kept.Decks.{no_streak}
use Rattle.looper_laws.proofs.Kept.Layers.{length-unmarked, unmarked-unmarked, total_seams-cons, length-with_current}
use Rattle.looper_laws.proofs.Kept.Tracks.{track_of_loop, loop_of_track, KeepsTracks}

-- the layers without the fresh marks of the current one
abbrev pub cleared : {A : Type 0} → List (Layer A) → List (Layer A)
cleared layers = with_current unmarked_layer layers

-- a layer of each kind without its fresh marks
cleared_closed : {A : Type 0} (l : Layer A) → IsClosed l → IsClosed (unmarked_layer l)
cleared_closed l h =
    record {
      not_empty = rw length-unmarked h.not_empty;
      not_fresh = unmarked-unmarked l.cells;
      no_base = h.no_base;
      no_base_seams = h.no_base_seams;
      cycle_from = h.cycle_from;
      cycle_to = rw length-unmarked h.cycle_to;
    }

cleared_recorded : {A : Type 0} (l : Layer A) → IsRecorded l → IsRecorded (unmarked_layer l)
cleared_recorded l h =
    record { no_base = h.no_base; no_base_seams = h.no_base_seams; no_cycle = h.no_cycle }

cleared_open : {A : Type 0} (l : Layer A) → IsOpenOver l → IsOpenOver (unmarked_layer l)
cleared_open l h =
    record {
      base_not_empty = h.base_not_empty;
      base_within = rw length-unmarked h.base_within;
      cycle_from = h.cycle_from;
      cycle_to = h.cycle_to;
    }

-- and all layers
cleared_current :
    {A : Type 0} (Kind : Layer A → Type 0) (layers : List (Layer A)) →
    ((l : Layer A) → Kind l → Kind (unmarked_layer l)) →
    HasCurrent Kind layers → HasCurrent Kind (cleared layers)
cleared_current Kind [] clears has = absurd has
cleared_current Kind (l ∷ ls) clears has = (clears l has.0, has.1)

cleared_all : {A : Type 0} (layers : List (Layer A)) → AreClosed layers → AreClosed (cleared layers)
cleared_all [] closed = tt
cleared_all (l ∷ ls) closed = (cleared_closed l closed.0, closed.1)

-- the current length stays
cleared_length : {A : Type 0} (layers : List (Layer A)) →
    current_length (cleared layers) ≡ current_length layers
cleared_length [] = refl
cleared_length (l ∷ ls) = length-unmarked l.cells

-- layers that can be played still can
cleared_playable : {A : Type 0} (layers : List (Layer A)) (pos : ℕ) → ArePlayable layers pos →
    ArePlayable (cleared layers) pos
cleared_playable layers pos h = (cleared_all layers h.0, rw cleared_length h.1)

cleared_waiting : {A : Type 0} (layers : List (Layer A)) (pos : ℕ) → AreWaiting layers pos →
    AreWaiting (cleared layers) pos
cleared_waiting [] pos h = h
cleared_waiting (l ∷ ls) pos h = cleared_playable (l ∷ ls) pos h

cleared_written : {A : Type 0} (layers redo : List (Layer A)) (pos : ℕ) →
    AreWritten layers redo pos → AreWritten (cleared layers) redo pos
cleared_written layers redo pos h =
    (cleared_current IsOpenOver layers cleared_open h.0, h.1, rw cleared_length h.2)

-- what each mode says still holds
cleared_in_mode :
    {A : Type 0} (mode : Mode) (layers redo : List (Layer A)) (pos : ℕ) (backward : Bool) →
    InMode mode layers redo pos backward →
    InMode mode (cleared layers) redo pos backward
cleared_in_mode Off layers redo pos backward h =
    ((subst (λ ls. cleared ls ≡ []) (sym h.0.0) refl, h.0.1), h.1)
cleared_in_mode WaitStart layers redo pos backward h = (cleared_waiting layers pos h.0, h.1)
cleared_in_mode Recording layers redo pos backward h =
    (cleared_current IsRecorded layers cleared_recorded h.0, h.1, rw cleared_length h.2, h.3)
cleared_in_mode Overdubbing layers redo pos backward h = cleared_written layers redo pos h
cleared_in_mode Replacing layers redo pos backward h = cleared_written layers redo pos h
cleared_in_mode Substituting layers redo pos backward h = cleared_written layers redo pos h
cleared_in_mode Inserting layers redo pos backward h = (cleared_written layers redo pos h.0, h.1)
cleared_in_mode Multiplying layers redo pos backward h =
    (cleared_current IsOpenOver layers cleared_open h.0, h.1, rw cleared_length h.2, h.3)
cleared_in_mode _ layers redo pos backward h = (cleared_playable layers pos h.0, h.1)

-- the limits of the layers, their seams and their order
cleared_within : {A : Type 0} (tape : ℕ) (layers : List (Layer A)) → AreWithin tape layers →
    AreWithin tape (cleared layers)
cleared_within tape [] within = tt
cleared_within tape (l ∷ ls) within = ((rw length-unmarked within.0.0, within.0.1), within.1)

cleared_seams : {A : Type 0} (layers : List (Layer A)) →
    total_seams (cleared layers) ≡ total_seams layers
cleared_seams [] = refl
cleared_seams (l ∷ ls) = total_seams-cons (unmarked_layer l) ls ∙ sym (total_seams-cons l ls)

cleared_order : {A : Type 0} (layers : List (Layer A)) → AreOrdered layers →
    AreOrdered (cleared layers)
cleared_order [] order = tt
cleared_order (l ∷ ls) order = order

cleared_end : {A : Type 0} (layers : List (Layer A)) →
    current_end (cleared layers) ≡ current_end layers
cleared_end [] = refl
cleared_end (l ∷ ls) = refl

-- a loop that is pinned
pub pinned_keeps : {A : Type 0} {a : Unchanged} {l : Loop A} → Keeps a l →
    Keeps (record a { pinned = true }) (with_stack (pinned l.stack) l)
pinned_keeps {l = l} h =
    record {
      loop = record {
        in_mode = cleared_in_mode l.deck.mode l.stack.layers l.stack.redo l.deck.pos l.deck.backward
            h.loop.in_mode;
        streak = no_streak l.deck.mode l.deck.pos l.deck.backward;
        stack = record {
          layers_within = cleared_within l.stack.tape l.stack.layers h.loop.stack.layers_within;
          redo_within = h.loop.stack.redo_within;
          pin_within = (let same : l.stack.tape ≤ l.stack.tape = omega arith in same);
          count = rw length-with_current h.loop.stack.count;
          seams = rw cleared_seams h.loop.stack.seams;
          order = cleared_order l.stack.layers h.loop.stack.order;
          redo_order = subst (λ end. GoOnFrom end l.stack.redo) (sym (cleared_end l.stack.layers))
              h.loop.stack.redo_order;
        };
        refused = h.loop.refused;
      };
      reach = h.reach;
      pinned = refl;
      controls = h.controls;
      press = h.press;
    }

-- a loop without its pin
pub unpinned_keeps : {A : Type 0} {a : Unchanged} {l : Loop A} → Keeps a l →
    Keeps (record a { pinned = false }) (with_stack (unpinned l.stack) l)
unpinned_keeps {l = l} h =
    record {
      loop = record {
        in_mode = h.loop.in_mode;
        streak = h.loop.streak;
        stack = record {
          layers_within = h.loop.stack.layers_within;
          redo_within = h.loop.stack.redo_within;
          pin_within = (let none : 0 ≤ l.stack.tape = omega arith in none);
          count = h.loop.stack.count;
          seams = h.loop.stack.seams;
          order = h.loop.stack.order;
          redo_order = h.loop.stack.redo_order;
        };
        refused = h.loop.refused;
      };
      reach = h.reach;
      pinned = refl;
      controls = h.controls;
      press = h.press;
    }

-- a track pinned for an asker
pub pinned_for_keeps : (frame : ℕ) (asker : Asker) →
    KeepsTracks frame (λ reach t. pinned_for asker t)
pinned_for_keeps frame asker reach t h =
    track_of_loop (pinned_keeps (loop_of_track h)) h.track.controls h.track.gain h.track.press

-- a track without its pin
freed_keeps : (frame : ℕ) → KeepsTracks frame (λ reach t. freed t)
freed_keeps frame reach t h =
    track_of_loop (unpinned_keeps (loop_of_track h)) h.track.controls h.track.gain h.track.press

freed_if_keeps : (frame : ℕ) (asker : Option Asker) →
    KeepsTracks frame (λ reach t. freed_if asker t)
freed_if_keeps frame None reach t h = h
freed_if_keeps frame (Some asker) reach t h = freed_keeps frame reach t h

pub loop_released_keeps : (frame : ℕ) → KeepsTracks frame (λ reach t. loop_released t)
loop_released_keeps frame reach t h = freed_if_keeps frame (loop_asker t.asker) reach t h

pub session_released_keeps : (frame : ℕ) → KeepsTracks frame (λ reach t. session_released t)
session_released_keeps frame reach t h = freed_if_keeps frame (session_asker t.asker) reach t h

-- a release leaves the tape
freed_if_tape : (asker : Option Asker) (t : Track) → tape_of (freed_if asker t) ≡ tape_of t
freed_if_tape None t = refl
freed_if_tape (Some asker) t = refl

pub session_released_tape : (t : Track) → tape_of (session_released t) ≡ tape_of t
session_released_tape t = freed_if_tape (session_asker t.asker) t
