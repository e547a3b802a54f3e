-- What the rules do to a loop they do to its contents: on a loop of addresses as on the loop of
-- frames.
use Rattle.std.proofs.Common.{◌≡◌, ℕ, ◌+◌, ◌-◌, Bool, true, false, List, [], ◌∷◌, map, length, Option, Some, None, is_some, refl, sym, ap, ap₂, ◌∙◌, nat_le, nat_lt, cond}
use Rattle.std.specs.Prelude.{◌==◌, ◌%◌}
use Rattle.sl_commands.specs.declared.Mode.{Mode}
use Rattle.sl_commands.specs.declared.Mode.TheVariants.{Off, WaitStart, Recording, Playing, Multiplying, Inserting, Paused}
use Rattle.sl_commands.specs.declared.Verb.{Verb}
use Rattle.sl_commands.specs.declared.Verb.TheVariants.{Rec, Overdub, Multiply, Insert, Replace, Substitute}
use Rattle.sl_commands.specs.declared.Mode.TheVariants.{Overdubbing, Replacing, Substituting}
use Rattle.sl_commands.specs.declared.Started.{Started}
use Rattle.sl_commands.specs.declared.Started.TheVariants.{Ok}
use Rattle.looper_rules.specs.Layers.{Layer, current_length}
use Rattle.looper_rules.specs.Stack.{Stack, Pin, streak_broken}
use Rattle.looper_rules.specs.Mapping.{layer_map, pin_map, stack_map}
use Rattle.looper_rules.specs.Loop.{Loop, is_writing, length_of, base_length_of, cycle_of, in_mode, in_mode_at, at_place, with_stack, refused_once, face_of}
use Rattle.looper_rules.specs.Opening.{opening}
use Rattle.looper_rules.specs.Writing.{extension_fits, extended}
use Rattle.looper_rules.specs.Closing.{finished, dropped, closes_as, closed_recording, closed_multiplying, closed_from, closed, multiply_cut, at_stop, at_stop_in}
use Rattle.looper_rules.specs.History.{closed_if, settled, undone, with_fewer, within_list, stepped_back, undo, undo_each, redone, with_more, redo_from, redo, redo_each}
use Rattle.looper_rules.specs.Starting.{records, starts_record, layers_on, starts, leaves_wait, mode_after_wait}
use Rattle.looper_rules.specs.Verbs.{start_place}
use Rattle.looper_rules.specs.LoopFrame.{stopped, extends, ready_in, wraps, wrapped_mode, wrapped_place, goes_on, stops_if, advanced_in, advanced, overrun_in, wakes_as, awake_in}
use Rattle.loop_states.specs.declared.act.Move.{Move}
use Rattle.loop_states.specs.declared.act.Move.TheVariants.{LeaveWait, Close, Begin, Round, SetMode, ToStart, Turn, BreakStreak, Undo, Redo, UndoAll, RedoAll}
use Rattle.loop_states.specs.Moves.{to_start, begins, carry}
use Rattle.loop_strip.specs.Strips.{loop_map}
use Rattle.loop_strip.specs.Openings.{opens_record}
use Rattle.layer_memory.proofs.SeenLemmas.{opening-mapped, opened-mapped, finished-mapped, dropped-mapped, undone-mapped, redone-mapped, lengths-mapped, bases-mapped, cycle-mapped, extension-mapped, extended-mapped, layers-mapped}

module _ {A B : Type 0} (f : A → B) where
  -- lengths are the same
  pub length-mapped : (l : Loop A) → length_of (loop_map f l) ≡ length_of l
  length-mapped l = lengths-mapped f l.stack.layers

  base-mapped : (l : Loop A) → base_length_of (loop_map f l) ≡ base_length_of l
  base-mapped l = bases-mapped f l.stack.layers

  -- another stack
  pub stack-mapped : (l : Loop A) (s : Stack A) (t : Stack B) → stack_map f s ≡ t →
      loop_map f (with_stack s l) ≡ with_stack t (loop_map f l)
  stack-mapped l s t is = ap (λ u. with_stack u (loop_map f l)) is

  pub closes-mapped : (mode : Mode) (pos : ℕ) (s : Stack A) (t : Stack B) (l : Loop A) →
      stack_map f s ≡ t → loop_map f (closes_as mode pos s l) ≡ closes_as mode pos t (loop_map f l)
  closes-mapped mode pos s t l is = ap (λ u. closes_as mode pos u (loop_map f l)) is

  recording-mapped : (empty single : Bool) (l : Loop A) →
      loop_map f (closed_recording empty single l) ≡ closed_recording empty single (loop_map f l)
  recording-mapped true true l = closes-mapped Off 0 (dropped l.stack)
      (dropped (stack_map f l.stack)) l (dropped-mapped f l.stack)
  recording-mapped true false l = closes-mapped Playing 0 (dropped l.stack)
      (dropped (stack_map f l.stack)) l (dropped-mapped f l.stack)
  recording-mapped false single l = closes-mapped Playing 0 (finished None l.stack)
      (finished None (stack_map f l.stack)) l (finished-mapped f None l.stack)

  multiplying-mapped : (s : Stack A) (t : Stack B) (l : Loop A) → stack_map f s ≡ t →
      loop_map f (closed_multiplying s l) ≡ closed_multiplying t (loop_map f l)
  multiplying-mapped s t l is =
      closes-mapped Playing (l.deck.pos % current_length s.layers) s t l is
      ∙ ap (λ n. closes_as Playing (l.deck.pos % n) t (loop_map f l))
      (sym (lengths-mapped f s.layers) ∙ ap (λ (u : Stack B). current_length u.layers) is)

  closed_from-mapped : (mode : Mode) (l : Loop A) →
      loop_map f (closed_from mode l) ≡ closed_from mode (loop_map f l)
  closed_from-mapped Recording l =
      recording-mapped (length_of l == 0) (nat_le (length l.stack.layers) 1) l
      ∙ ap₂ (λ n m. closed_recording (n == 0) (nat_le m 1) (loop_map f l)) (sym (length-mapped l))
      (sym (layers-mapped f l.stack.layers))
  closed_from-mapped Multiplying l =
      multiplying-mapped (finished (multiply_cut l.deck.pos (base_length_of l)) l.stack)
      (finished (multiply_cut l.deck.pos (base_length_of l)) (stack_map f l.stack)) l
      (finished-mapped f (multiply_cut l.deck.pos (base_length_of l)) l.stack)
      ∙ ap (λ n. closed_multiplying (finished (multiply_cut l.deck.pos n) (stack_map f l.stack))
      (loop_map f l)) (sym (base-mapped l))
  closed_from-mapped _ l = closes-mapped Playing l.deck.pos (finished None l.stack)
      (finished None (stack_map f l.stack)) l (finished-mapped f None l.stack)

  pub closed-mapped : (l : Loop A) → loop_map f (closed l) ≡ closed (loop_map f l)
  closed-mapped l = closed_from-mapped l.deck.mode l

  -- undo and redo
  settled-mapped : (begun : Bool) (l : Loop A) →
      loop_map f (closed_if begun l) ≡ closed_if begun (loop_map f l)
  settled-mapped true l = closed-mapped l
  settled-mapped false l = refl

  within-mapped : (l : Loop A) → loop_map f (within_list l) ≡ within_list (loop_map f l)
  within-mapped l = ap (λ n. at_place (l.deck.pos % n) (loop_map f l)) (sym (length-mapped l))

  fewer-mapped : (ls : List (Layer A)) (l : Loop A) →
      loop_map f (with_fewer ls l) ≡ with_fewer (map (layer_map f) ls) (loop_map f l)
  fewer-mapped [] l = refl
  fewer-mapped (x ∷ xs) l = within-mapped l

  back-mapped : (l : Loop A) → loop_map f (stepped_back l) ≡ stepped_back (loop_map f l)
  back-mapped l =
      fewer-mapped (undone l.stack).layers (with_stack (undone l.stack) l)
      ∙ ap (λ (s : Stack B). with_fewer s.layers (with_stack s (loop_map f l)))
      (undone-mapped f l.stack)

  pub undo-mapped : (l : Loop A) → loop_map f (undo l) ≡ undo (loop_map f l)
  undo-mapped l = back-mapped (settled l)
      ∙ ap stepped_back (settled-mapped (is_writing l.deck.mode) l)

  undo_each-mapped : (ls : List (Layer A)) (l : Loop A) →
      loop_map f (undo_each ls l) ≡ undo_each (map (layer_map f) ls) (loop_map f l)
  undo_each-mapped [] l = refl
  undo_each-mapped (x ∷ xs) l =
      undo_each-mapped xs (undo l) ∙ ap (undo_each (map (layer_map f) xs)) (undo-mapped l)

  more-mapped : (mode : Mode) (l : Loop A) →
      loop_map f (with_more mode l) ≡ with_more mode (loop_map f l)
  more-mapped Off l = refl
  more-mapped _ l = within-mapped l

  redo_from-mapped : (ls : List (Layer A)) (l : Loop A) →
      loop_map f (redo_from ls l) ≡ redo_from (map (layer_map f) ls) (loop_map f l)
  redo_from-mapped [] l = refl
  redo_from-mapped (x ∷ xs) l =
      more-mapped l.deck.mode (with_stack (redone l.stack) l)
      ∙ ap (λ s. with_more l.deck.mode (with_stack s (loop_map f l))) (redone-mapped f l.stack)

  pub redo-mapped : (l : Loop A) → loop_map f (redo l) ≡ redo (loop_map f l)
  redo-mapped l = redo_from-mapped l.stack.redo l

  redo_each-mapped : (ls : List (Layer A)) (l : Loop A) →
      loop_map f (redo_each ls l) ≡ redo_each (map (layer_map f) ls) (loop_map f l)
  redo_each-mapped [] l = refl
  redo_each-mapped (x ∷ xs) l =
      redo_each-mapped xs (redo l) ∙ ap (redo_each (map (layer_map f) xs)) (redo-mapped l)

  -- leaving WaitStart
  after_wait-mapped : (ls : List (Layer A)) →
      mode_after_wait (map (layer_map f) ls) ≡ mode_after_wait ls
  after_wait-mapped [] = refl
  after_wait-mapped (x ∷ xs) = refl

  pub left-mapped : (l : Loop A) → loop_map f (leaves_wait l) ≡ leaves_wait (loop_map f l)
  left-mapped l = ap (λ m. in_mode m (loop_map f l)) (sym (after_wait-mapped l.stack.layers))

  -- openings
  pub records-mapped : (answer : Started) (l : Loop A) →
      loop_map f (records answer l) ≡ records answer (loop_map f l)
  records-mapped Ok l =
      ap (λ s. let m : Loop B =
      record (loop_map f l)
      { deck = record l.deck { mode = Recording; pos = 0; backward = false }; stack = s } in m)
      (opened-mapped f true l.stack)
  records-mapped _ l = refl

  pub opens-mapped : (reach : ℕ) (l : Loop A) →
      loop_map f (opens_record reach l) ≡ opens_record reach (loop_map f l)
  opens-mapped reach l =
      records-mapped (opening reach true l.stack) l
      ∙ ap (λ a. records a (loop_map f l)) (sym (opening-mapped f reach true l.stack))

  starts_record-as : (waits : Bool) (reach : ℕ) (l : Loop A) →
      loop_map f (cond waits (in_mode WaitStart l) (opens_record reach l)) ≡ cond waits
      (in_mode WaitStart (loop_map f l)) (opens_record reach (loop_map f l))
  starts_record-as true reach l = refl
  starts_record-as false reach l = opens-mapped reach l

  pub starts_record-mapped : (reach : ℕ) (l : Loop A) →
      loop_map f (starts_record reach l) ≡ starts_record reach (loop_map f l)
  starts_record-mapped reach l = starts_record-as (nat_lt 0 l.controls.rec_thresh) reach l

  pub layers_on-mapped : (answer : Started) (mode : Mode) (l : Loop A) →
      loop_map f (layers_on answer mode l) ≡ layers_on answer mode (loop_map f l)
  layers_on-mapped Ok mode l =
      ap (λ s. let m : Loop B =
      record (loop_map f l) { deck = record l.deck { mode = mode }; stack = s } in m)
      (opened-mapped f false l.stack)
  layers_on-mapped _ mode l = refl

  starts-mapped : (mode : Mode) (reach : ℕ) (l : Loop A) →
      loop_map f (starts mode reach l) ≡ starts mode reach (loop_map f l)
  starts-mapped mode reach l =
      layers_on-mapped (opening reach false l.stack) mode l
      ∙ ap (λ a. layers_on a mode (loop_map f l)) (sym (opening-mapped f reach false l.stack))

  pub begins-mapped : (verb : Verb) (reach : ℕ) (l : Loop A) →
      loop_map f (begins verb reach l) ≡ begins verb reach (loop_map f l)
  begins-mapped Rec reach l = starts_record-mapped reach l
  begins-mapped Overdub reach l = starts-mapped Overdubbing reach l
  begins-mapped Multiply reach l = starts-mapped Multiplying reach l
  begins-mapped Insert reach l = starts-mapped Inserting reach l
  begins-mapped Replace reach l = starts-mapped Replacing reach l
  begins-mapped Substitute reach l = starts-mapped Substituting reach l
  begins-mapped _ reach l = refl

  to_start-mapped : (l : Loop A) → loop_map f (to_start l) ≡ to_start (loop_map f l)
  to_start-mapped l =
      ap (λ n. at_place (start_place l.deck.backward n) (loop_map f l)) (sym (length-mapped l))

  -- each move
  pub carry-mapped : (reach : ℕ) (move : Move) (l : Loop A) →
      loop_map f (carry reach move l) ≡ carry reach move (loop_map f l)
  carry-mapped reach LeaveWait l = left-mapped l
  carry-mapped reach Close l = closed-mapped l
  carry-mapped reach (Begin verb) l = begins-mapped verb reach l
  carry-mapped reach Round l = refl
  carry-mapped reach (SetMode mode) l = refl
  carry-mapped reach ToStart l = to_start-mapped l
  carry-mapped reach Turn l = refl
  carry-mapped reach BreakStreak l = refl
  carry-mapped reach Undo l = undo-mapped l
  carry-mapped reach Redo l = redo-mapped l
  carry-mapped reach UndoAll l = undo_each-mapped l.stack.layers l
  carry-mapped reach RedoAll l = redo_each-mapped l.stack.redo l

  -- a frame's steps
  pub stopped-mapped : (l : Loop A) → loop_map f (stopped l) ≡ stopped (loop_map f l)
  stopped-mapped l = closed-mapped (refused_once l)

  extends-mapped : (fits : Bool) (l : Loop A) →
      loop_map f (extends fits l) ≡ extends fits (loop_map f l)
  extends-mapped true l =
      stack-mapped l (extended l.stack) (extended (stack_map f l.stack)) (extended-mapped f l.stack)
  extends-mapped false l = stopped-mapped l

  pub ready-mapped : (mode : Mode) (full : Bool) (l : Loop A) →
      loop_map f (ready_in mode full l) ≡ ready_in mode full (loop_map f l)
  ready-mapped Multiplying true l = extends-mapped (extension_fits l.stack) l
      ∙ ap (λ b. extends b (loop_map f l)) (sym (extension-mapped f l.stack))
  ready-mapped Multiplying false l = refl
  ready-mapped _ full l = refl

  pub wakes-mapped : (answer : Started) (l : Loop A) →
      loop_map f (wakes_as answer l) ≡ wakes_as answer (loop_map f l)
  wakes-mapped Ok l = records-mapped Ok l
  wakes-mapped _ l = left-mapped (refused_once l)

  pub awake-mapped : (mode : Mode) (loud : Bool) (reach : ℕ) (l : Loop A) →
      loop_map f (awake_in mode loud reach l) ≡ awake_in mode loud reach (loop_map f l)
  awake-mapped WaitStart true reach l =
      wakes-mapped (opening reach true l.stack) l
      ∙ ap (λ a. wakes_as a (loop_map f l)) (sym (opening-mapped f reach true l.stack))
  awake-mapped WaitStart false reach l = refl
  awake-mapped _ loud reach l = refl

  goes_on-mapped : (wrap : Bool) (l : Loop A) →
      loop_map f (goes_on wrap l) ≡ goes_on wrap (loop_map f l)
  goes_on-mapped true l =
      ap (λ n. with_stack (streak_broken (stack_map f l.stack))
      (in_mode_at (wrapped_mode l.deck.mode) (wrapped_place l.deck.backward n) (loop_map f l)))
      (sym (length-mapped l))
  goes_on-mapped false l = refl

  stop-mapped : (mode : Mode) (l : Loop A) → at_stop_in mode (loop_map f l) ≡ at_stop_in mode l
  stop-mapped Multiplying l = ap (λ n. l.deck.pos % n == 0) (cycle-mapped f l.stack.layers)
  stop-mapped Inserting l =
      ap₂ (λ n m. (n - m) % cycle_of (loop_map f l) == 0) (length-mapped l) (base-mapped l)
      ∙ ap (λ n. (length_of l - base_length_of l) % n == 0) (cycle-mapped f l.stack.layers)
  stop-mapped _ l = refl

  stops-as : (stop : Bool) (l : Loop A) →
      loop_map f (cond stop (closed l) l) ≡ cond stop (closed (loop_map f l)) (loop_map f l)
  stops-as true l = closed-mapped l
  stops-as false l = refl

  stops-mapped : (rounding : Bool) (l : Loop A) →
      loop_map f (stops_if rounding l) ≡ stops_if rounding (loop_map f l)
  stops-mapped true l = stops-as (at_stop l) l
      ∙ ap (λ b. cond b (closed (loop_map f l)) (loop_map f l)) (sym (stop-mapped l.deck.mode l))
  stops-mapped false l = refl

  pub advanced_in-mapped : (mode : Mode) (l : Loop A) →
      loop_map f (advanced_in mode l) ≡ advanced_in mode (loop_map f l)
  advanced_in-mapped Off l = refl
  advanced_in-mapped WaitStart l = refl
  advanced_in-mapped Paused l = refl
  advanced_in-mapped Recording l = ap (λ n. at_place n (loop_map f l)) (sym (length-mapped l))
  advanced_in-mapped Inserting l = stops-mapped l.deck.rounding (at_place (l.deck.pos + 1) l)
  advanced_in-mapped Multiplying l = stops-mapped l.deck.rounding (at_place (l.deck.pos + 1) l)
  advanced_in-mapped _ l =
      goes_on-mapped (wraps l.deck.backward l.deck.pos (length_of l)) l
      ∙ ap (λ n. goes_on (wraps l.deck.backward l.deck.pos n) (loop_map f l))
      (sym (length-mapped l))

  pub advanced-mapped : (l : Loop A) → loop_map f (advanced l) ≡ advanced (loop_map f l)
  advanced-mapped l = advanced_in-mapped l.deck.mode l

  pub overrun-mapped : (mode : Mode) (l : Loop A) →
      loop_map f (overrun_in mode l) ≡ overrun_in mode (loop_map f l)
  overrun-mapped Recording l = stopped-mapped l
  overrun-mapped _ l = advanced-mapped (stopped l) ∙ ap advanced (stopped-mapped l)

  -- what is seen of the loop
  pub face-mapped : (l : Loop A) → face_of (loop_map f l) ≡ face_of l
  face-mapped l =
      ap₂ (λ n m. record (face_of (loop_map f l)) { length = n; cycle = m }) (length-mapped l)
      (cycle-mapped f l.stack.layers)
      ∙ ap₂ (λ n m. record (face_of (loop_map f l)) {
        length = length_of l;
        cycle =
            cycle_of l;
        base = n;
        layers = m;
      }) (base-mapped l) (layers-mapped f l.stack.layers)
      ∙ ap₂ (λ n b. record (face_of l) { redo = n; pinned = b }) (layers-mapped f l.stack.redo)
      (pin-as l.stack.pin)
    where
      pin-as : (p : Option (Pin A)) → is_some (pin_map f p) ≡ is_some p
      pin-as None = refl
      pin-as (Some q) = refl
