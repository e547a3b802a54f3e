-- What always holds of a loop says nothing of what its cells hold: it holds of a loop of addresses
-- where it holds of the loop of frames, and the other way round.
use Rattle.std.proofs.Common.{◌≡◌, ℕ, Bool, false, List, [], ◌∷◌, map, Option, Some, None, is_some, refl, sym, ap, ap₂, subst, ◌∙◌, arith}
use Rattle.std.proofs.lemmas.List.{length-map}
use Rattle.sl_commands.specs.declared.Mode.{Mode}
use Rattle.sl_commands.specs.declared.Mode.TheVariants.{Off, WaitStart, Recording, Playing, Overdubbing, Multiplying, Inserting, Replacing, Muted, OneShot, Substituting, Paused}
use Rattle.looper_rules.specs.Layers.{Cell, Layer, contents, old_cell, old_cells, unmarked, current_end}
use Rattle.looper_rules.specs.Stack.{Stack, Pin}
use Rattle.looper_rules.specs.Mapping.{cell_map, layer_map, pin_map, stack_map}
use Rattle.looper_rules.specs.Loop.{Loop}
use Rattle.looper_rules.specs.States.{IsClosed, IsRecorded, IsOpenOver, AreClosed, HasCurrent, ArePlayable, AreWaiting, AreWritten, InMode, AreWithin, AreOrdered, GoOnFrom, IsStack, IsLoop}
use Rattle.looper_rules.specs.Reached.{Unchanged, Keeps}
use Rattle.loop_strip.specs.Strips.{loop_map}
use Rattle.layer_memory.proofs.SeenLemmas.{contents-mapped, old-mapped, lengths-mapped, layers-mapped, total-mapped, end-mapped, pin-mapped}

module _ {A B : Type 0} (f : A → B) where
  unmarked-mapped : (cs : List (Cell A)) →
      map (cell_map f) (unmarked cs) ≡ unmarked (map (cell_map f) cs)
  unmarked-mapped cs = sym (old-mapped f (contents cs)) ∙ ap old_cells (sym (contents-mapped f cs))

  -- cells that aren't fresh
  old_back : (cs : List (Cell A)) → map (cell_map f) cs ≡ unmarked (map (cell_map f) cs) →
      cs ≡ unmarked cs
  old_back [] h = refl
  old_back (c ∷ cs) h =
      let here : c.fresh ≡ false = head_fresh (cell_map f c) (old_cell (f c.content))
      (map (cell_map f) cs) (unmarked (map (cell_map f) cs)) h
      in let rest : map (cell_map f) cs ≡ unmarked (map (cell_map f) cs) = cc
      in ap₂ (λ b ds. let d : Cell A = record { content = c.content; fresh = b } in d ∷ ds) here
      (old_back cs rest)
    where
      head_fresh : (x y : Cell B) (xs ys : List (Cell B)) → x ∷ xs ≡ y ∷ ys → x.fresh ≡ y.fresh
      head_fresh x y xs ys e = let same : x ≡ y = cc in ap (λ (z : Cell B). z.fresh) same

  old_there : (cs : List (Cell A)) → cs ≡ unmarked cs →
      map (cell_map f) cs ≡ unmarked (map (cell_map f) cs)
  old_there cs h = ap (map (cell_map f)) h ∙ unmarked-mapped cs

  none_back : (xs : List A) → map f xs ≡ [] → xs ≡ []
  none_back [] h = refl
  none_back (x ∷ xs) h = let no : ⊥ = cc in absurd no

  -- each kind of layer
  closed_there : (l : Layer A) → IsClosed l → IsClosed (layer_map f l)
  closed_there l h = record {
    not_empty = rw length-map h.not_empty;
    not_fresh = old_there l.cells h.not_fresh;
    no_base = ap (map f) h.no_base;
    no_base_seams = h.no_base_seams;
    cycle_from = h.cycle_from;
    cycle_to = rw length-map h.cycle_to;
  }

  closed_back : (l : Layer A) → IsClosed (layer_map f l) → IsClosed l
  closed_back l h = record {
    not_empty = rw length-map at h.not_empty;
    not_fresh = old_back l.cells h.not_fresh;
    no_base = none_back l.base h.no_base;
    no_base_seams = h.no_base_seams;
    cycle_from = h.cycle_from;
    cycle_to = rw length-map at h.cycle_to;
  }

  recorded_there : (l : Layer A) → IsRecorded l → IsRecorded (layer_map f l)
  recorded_there l h =
      record {
        no_base = ap (map f) h.no_base;
        no_base_seams = h.no_base_seams;
        no_cycle =
            h.no_cycle;
      }

  recorded_back : (l : Layer A) → IsRecorded (layer_map f l) → IsRecorded l
  recorded_back l h = record {
    no_base = none_back l.base h.no_base;
    no_base_seams =
        h.no_base_seams;
    no_cycle = h.no_cycle;
  }

  over_there : (l : Layer A) → IsOpenOver l → IsOpenOver (layer_map f l)
  over_there l h =
      let cells = length-map l.cells (cell_map f)
      in let base = length-map l.base f
      in record {
        base_not_empty = (let from = h.base_not_empty in omega arith);
        base_within = (let from = h.base_within in omega arith);
        cycle_from = h.cycle_from;
        cycle_to = (let from = h.cycle_to in omega arith);
      }

  over_back : (l : Layer A) → IsOpenOver (layer_map f l) → IsOpenOver l
  over_back l h =
      let cells = length-map l.cells (cell_map f)
      in let base = length-map l.base f
      in record {
        base_not_empty = (let from = h.base_not_empty in omega arith);
        base_within = (let from = h.base_within in omega arith);
        cycle_from = h.cycle_from;
        cycle_to = (let from = h.cycle_to in omega arith);
      }

  all_there : (ls : List (Layer A)) → AreClosed ls → AreClosed (map (layer_map f) ls)
  all_there [] h = tt
  all_there (l ∷ ls) h = (closed_there l h.0, all_there ls h.1)

  all_back : (ls : List (Layer A)) → AreClosed (map (layer_map f) ls) → AreClosed ls
  all_back [] h = tt
  all_back (l ∷ ls) h = (closed_back l h.0, all_back ls h.1)

  record_there : (ls : List (Layer A)) → HasCurrent IsRecorded ls →
      HasCurrent IsRecorded (map (layer_map f) ls)
  record_there [] h = absurd h
  record_there (l ∷ ls) h = (recorded_there l h.0, all_there ls h.1)

  record_back : (ls : List (Layer A)) → HasCurrent IsRecorded (map (layer_map f) ls) →
      HasCurrent IsRecorded ls
  record_back [] h = absurd h
  record_back (l ∷ ls) h = (recorded_back l h.0, all_back ls h.1)

  open_there : (ls : List (Layer A)) → HasCurrent IsOpenOver ls →
      HasCurrent IsOpenOver (map (layer_map f) ls)
  open_there [] h = absurd h
  open_there (l ∷ ls) h = (over_there l h.0, all_there ls h.1)

  open_back : (ls : List (Layer A)) → HasCurrent IsOpenOver (map (layer_map f) ls) →
      HasCurrent IsOpenOver ls
  open_back [] h = absurd h
  open_back (l ∷ ls) h = (over_back l h.0, all_back ls h.1)

  empty_back : (ls : List (Layer A)) → map (layer_map f) ls ≡ [] → ls ≡ []
  empty_back [] h = refl
  empty_back (l ∷ ls) h = let no : ⊥ = cc in absurd no

  play_there : (ls : List (Layer A)) (pos : ℕ) → ArePlayable ls pos →
      ArePlayable (map (layer_map f) ls) pos
  play_there ls pos h = (all_there ls h.0, rw (lengths-mapped f ls) h.1)

  play_back : (ls : List (Layer A)) (pos : ℕ) → ArePlayable (map (layer_map f) ls) pos →
      ArePlayable ls pos
  play_back ls pos h =
      (all_back ls h.0, (let same = lengths-mapped f ls in let inside = h.1 in omega arith))

  wait_there : (ls : List (Layer A)) (pos : ℕ) → AreWaiting ls pos →
      AreWaiting (map (layer_map f) ls) pos
  wait_there [] pos h = h
  wait_there (l ∷ ls) pos h = play_there (l ∷ ls) pos h

  wait_back : (ls : List (Layer A)) (pos : ℕ) → AreWaiting (map (layer_map f) ls) pos →
      AreWaiting ls pos
  wait_back [] pos h = h
  wait_back (l ∷ ls) pos h = play_back (l ∷ ls) pos h

  write_there : (ls redo : List (Layer A)) (pos : ℕ) → AreWritten ls redo pos →
      AreWritten (map (layer_map f) ls) (map (layer_map f) redo) pos
  write_there ls redo pos h = (
    open_there ls h.0,
    ap (map (layer_map f)) h.1,
    (let same = lengths-mapped f ls in let inside = h.2 in omega arith),
  )

  write_back : (ls redo : List (Layer A)) (pos : ℕ) →
      AreWritten (map (layer_map f) ls) (map (layer_map f) redo) pos → AreWritten ls redo pos
  write_back ls redo pos h = (
    open_back ls h.0,
    empty_back redo h.1,
    (let same = lengths-mapped f ls in let inside = h.2 in omega arith),
  )

  in_there : (mode : Mode) (ls redo : List (Layer A)) (pos : ℕ) (backward : Bool) →
      InMode mode ls redo pos backward →
      InMode mode (map (layer_map f) ls) (map (layer_map f) redo) pos backward
  in_there Off ls redo pos backward h = ((ap (map (layer_map f)) h.0.0, h.0.1), all_there redo h.1)
  in_there WaitStart ls redo pos backward h = (wait_there ls pos h.0, all_there redo h.1)
  in_there Recording ls redo pos backward h =
      (record_there ls h.0, ap (map (layer_map f)) h.1, h.2 ∙ sym (lengths-mapped f ls), h.3)
  in_there Overdubbing ls redo pos backward h = write_there ls redo pos h
  in_there Replacing ls redo pos backward h = write_there ls redo pos h
  in_there Substituting ls redo pos backward h = write_there ls redo pos h
  in_there Inserting ls redo pos backward h = (write_there ls redo pos h.0, h.1)
  in_there Multiplying ls redo pos backward h = (
    open_there ls h.0,
    ap (map (layer_map f)) h.1,
    (let same = lengths-mapped f ls in let inside = h.2 in omega arith),
    h.3,
  )
  in_there Playing ls redo pos backward h = (play_there ls pos h.0, all_there redo h.1)
  in_there Muted ls redo pos backward h = (play_there ls pos h.0, all_there redo h.1)
  in_there OneShot ls redo pos backward h = (play_there ls pos h.0, all_there redo h.1)
  in_there Paused ls redo pos backward h = (play_there ls pos h.0, all_there redo h.1)

  in_back : (mode : Mode) (ls redo : List (Layer A)) (pos : ℕ) (backward : Bool) →
      InMode mode (map (layer_map f) ls) (map (layer_map f) redo) pos backward →
      InMode mode ls redo pos backward
  in_back Off ls redo pos backward h = ((empty_back ls h.0.0, h.0.1), all_back redo h.1)
  in_back WaitStart ls redo pos backward h = (wait_back ls pos h.0, all_back redo h.1)
  in_back Recording ls redo pos backward h =
      (record_back ls h.0, empty_back redo h.1, h.2 ∙ lengths-mapped f ls, h.3)
  in_back Overdubbing ls redo pos backward h = write_back ls redo pos h
  in_back Replacing ls redo pos backward h = write_back ls redo pos h
  in_back Substituting ls redo pos backward h = write_back ls redo pos h
  in_back Inserting ls redo pos backward h = (write_back ls redo pos h.0, h.1)
  in_back Multiplying ls redo pos backward h = (
    open_back ls h.0,
    empty_back redo h.1,
    (let same = lengths-mapped f ls in let inside = h.2 in omega arith),
    h.3,
  )
  in_back Playing ls redo pos backward h = (play_back ls pos h.0, all_back redo h.1)
  in_back Muted ls redo pos backward h = (play_back ls pos h.0, all_back redo h.1)
  in_back OneShot ls redo pos backward h = (play_back ls pos h.0, all_back redo h.1)
  in_back Paused ls redo pos backward h = (play_back ls pos h.0, all_back redo h.1)

  within_there : (tape : ℕ) (ls : List (Layer A)) → AreWithin tape ls →
      AreWithin tape (map (layer_map f) ls)
  within_there tape [] h = tt
  within_there tape (l ∷ ls) h = ((rw length-map h.0.0, h.0.1), within_there tape ls h.1)

  within_back : (tape : ℕ) (ls : List (Layer A)) → AreWithin tape (map (layer_map f) ls) →
      AreWithin tape ls
  within_back tape [] h = tt
  within_back tape (l ∷ ls) h = (
    ((let same = length-map l.cells (cell_map f) in let short = h.0.0 in omega arith), h.0.1),
    within_back tape ls h.1,
  )

  order_there : (ls : List (Layer A)) → AreOrdered ls → AreOrdered (map (layer_map f) ls)
  order_there [] h = tt
  order_there (l ∷ ls) h = (rw (end-mapped f ls) h.0, order_there ls h.1)

  order_back : (ls : List (Layer A)) → AreOrdered (map (layer_map f) ls) → AreOrdered ls
  order_back [] h = tt
  order_back (l ∷ ls) h =
      ((let same = end-mapped f ls in let less = h.0 in omega arith), order_back ls h.1)

  go_there : (end : ℕ) (ls : List (Layer A)) → GoOnFrom end ls → GoOnFrom end (map (layer_map f) ls)
  go_there end [] h = tt
  go_there end (l ∷ ls) h = (h.0, go_there l.end ls h.1)

  go_back : (end : ℕ) (ls : List (Layer A)) → GoOnFrom end (map (layer_map f) ls) → GoOnFrom end ls
  go_back end [] h = tt
  go_back end (l ∷ ls) h = (h.0, go_back l.end ls h.1)

  stack_there : (s : Stack A) → IsStack s → IsStack (stack_map f s)
  stack_there s h = record {
    layers_within = within_there s.tape s.layers h.layers_within;
    redo_within = within_there s.tape s.redo h.redo_within;
    pin_within = rw (pin-mapped f s.pin) h.pin_within;
    count = rw (layers-mapped f s.layers, layers-mapped f s.redo) h.count;
    seams = rw (total-mapped f s.layers, total-mapped f s.redo) h.seams;
    order = order_there s.layers h.order;
    redo_order = rw (end-mapped f s.layers) (go_there (current_end s.layers) s.redo h.redo_order);
  }

  stack_back : (s : Stack A) → IsStack (stack_map f s) → IsStack s
  stack_back s h = record {
    layers_within = within_back s.tape s.layers h.layers_within;
    redo_within = within_back s.tape s.redo h.redo_within;
    pin_within = (let same = pin-mapped f s.pin in let from = h.pin_within in omega arith);
    count = (let a = layers-mapped f s.layers in let b = layers-mapped f s.redo in
        let from = h.count in omega arith);
    seams = (let a = total-mapped f s.layers in let b = total-mapped f s.redo in
        let from = h.seams in omega arith);
    order = order_back s.layers h.order;
    redo_order = go_back (current_end s.layers) s.redo
        (subst (λ n. GoOnFrom n (map (layer_map f) s.redo)) (end-mapped f s.layers) h.redo_order);
  }

  pub loop_there : (l : Loop A) → IsLoop l → IsLoop (loop_map f l)
  loop_there l h = record {
    in_mode = in_there l.deck.mode l.stack.layers l.stack.redo l.deck.pos l.deck.backward h.in_mode;
    streak = h.streak;
    stack = stack_there l.stack h.stack;
    refused = h.refused;
  }

  pub loop_back : (l : Loop A) → IsLoop (loop_map f l) → IsLoop l
  loop_back l h = record {
    in_mode = in_back l.deck.mode l.stack.layers l.stack.redo l.deck.pos l.deck.backward h.in_mode;
    streak = h.streak;
    stack = stack_back l.stack h.stack;
    refused = h.refused;
  }

  pinned_there : (p : Option (Pin A)) → is_some (pin_map f p) ≡ is_some p
  pinned_there None = refl
  pinned_there (Some p) = refl

  pub keeps_there : {a : Unchanged} (l : Loop A) → Keeps a l → Keeps a (loop_map f l)
  keeps_there l h = record {
    loop = loop_there l h.loop;
    reach = h.reach;
    pinned =
        pinned_there l.stack.pin ∙ h.pinned;
    controls = h.controls;
    press = h.press;
  }

  pub keeps_back : {a : Unchanged} (l : Loop A) → Keeps a (loop_map f l) → Keeps a l
  keeps_back l h = record {
    loop = loop_back l h.loop;
    reach = h.reach;
    pinned =
        sym (pinned_there l.stack.pin) ∙ h.pinned;
    controls = h.controls;
    press = h.press;
  }
