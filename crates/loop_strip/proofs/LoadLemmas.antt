-- A loop that begins with a list.
use Rattle.std.proofs.Common.{◌≡◌, ℕ, ◌+◌, ◌-◌, ◌≤◌, ◌<◌, List, [], ◌∷◌, length, None, is_some, refl, sym, ap, subst, ◌∙◌, arith, IsFalse}
use Rattle.std.proofs.lemmas.List.{length-map}
use Rattle.std.proofs.lemmas.List.FromFn.{length-range_with_len}
use Rattle.std.specs.List.{range_with_len}
use Rattle.sl_base.specs.Sounds.{Sound}
use Rattle.sl_base.specs.Limits.{max_layers, max_list_frames, max_seams}
use Rattle.sl_commands.specs.declared.Mode.TheVariants.{Off, Paused}
use Rattle.sl_commands.specs.declared.StripSettings.{StripSettings}
use Rattle.looper_rules.specs.Layers.{old_cell, old_cells, total_seams, current_end}
use Rattle.looper_rules.specs.Stack.{Stack, empty_stack}
use Rattle.looper_rules.specs.Mapping.{stack_map}
use Rattle.looper_rules.specs.Room.{chunks_of}
use Rattle.looper_rules.specs.Loop.{Loop, Deck as DeckOf, is_writing, new_deck}
use Rattle.looper_rules.specs.Run.{loaded, loaded_layer, loaded_stack, first_loop}
use Rattle.looper_rules.specs.States.{IsClosed, IsLoop}
use Rattle.looper_laws.proofs.Kept.Layers.{contents-old_cells}
use Rattle.loop_tape.specs.Pools.{PoolOf}
use Rattle.loop_tape.specs.Tapes.{at}
use Rattle.layer_memory.specs.Seen.{Held, reach}
use Rattle.layer_memory.specs.Answers.{Loads}
use Rattle.layer_memory.specs.Sharing.{IsShared}
use Rattle.loop_strip.specs.Strips.{StripOf, loop_map, seen, free_in, reach_in, Owns, Did}
use Rattle.loop_strip.specs.declared.parts.Parts.{Parts}
use Rattle.loop_strip.specs.Parts.{loop_of, strip_of, IsWhole}
use Rattle.loop_strip.specs.Loading.{IsNew, loads}
use Rattle.loop_strip.proofs.DidLemmas.{seen-is, did_kept}

-- what a new loop has
pub new_closed : (s : Parts) → IsWhole s → IsNew (loop_of s) → IsFalse s.layers.writing
new_closed s w n = w.writing ∙ ap (λ (d : DeckOf). is_writing d.mode) n.deck

-- a new loop has no redo layer
pub new_redo : (s : Parts) → IsNew (loop_of s) → s.layers.stack.redo ≡ []
new_redo s n = ap (λ (t : Stack ℕ). t.redo) n.stack

-- nor a pin
pub new_pin : (s : Parts) → IsNew (loop_of s) → s.layers.stack.pin ≡ None
new_pin s n = ap (λ (t : Stack ℕ). t.pin) n.stack

-- its tape ends with its layers
pub new_end : (s : Parts) → IsNew (loop_of s) →
    s.layers.stack.tape ≡ current_end s.layers.stack.layers
new_end s n = ap (λ (t : Stack ℕ). t.tape) n.stack
    ∙ sym (ap (λ (t : Stack ℕ). current_end t.layers) n.stack)

-- it has room for a layer
pub new_count : (s : Parts) → IsNew (loop_of s) → length s.layers.stack.layers < max_layers
new_count s n = let e : length s.layers.stack.layers ≡ 0 =
    ap (λ (t : Stack ℕ). length t.layers) n.stack in omega arith

-- and for seams
pub new_seams : (s : Parts) → IsNew (loop_of s) → total_seams s.layers.stack.layers ≤ max_seams - 2
new_seams s n = let e : total_seams s.layers.stack.layers ≡ 0 =
    ap (λ (t : Stack ℕ). total_seams t.layers) n.stack in omega arith

-- and for frames
pub new_room : (s : Parts) (p : PoolOf) (k : ℕ) → IsNew (loop_of s) → chunks_of k ≤ free_in p →
    chunks_of (s.layers.stack.tape + k) ≤ reach s.layers p
new_room s p k n fits =
    let none : s.layers.stack.tape ≡ 0 = ap (λ (t : Stack ℕ). t.tape) n.stack
    in omega (arith, none, fits)

-- its layer is closed
loaded_closed : {A : Type 0} (list : List A) (cycle end : ℕ) → 1 ≤ length list → 1 ≤ cycle →
    cycle ≤ length list → IsClosed (loaded_layer list cycle end)
loaded_closed list cycle end some from to =
    let same : length (old_cells list) ≡ length list = length-map list old_cell
    in record {
      not_empty = omega arith;
      not_fresh = ap old_cells (sym (contents-old_cells list));
      no_base = refl;
      no_base_seams = refl;
      cycle_from = from;
      cycle_to = omega arith;
    }

-- a loop that begins with a list is one that a run may reach
loaded_loop : {A : Type 0} (list : List A) (cycle : ℕ) (l : Loop A) → 1 ≤ length list →
    length list ≤ max_list_frames → 1 ≤ cycle → cycle ≤ length list → l.refused ≡ 0 →
    IsLoop (loads list cycle 0 l)
loaded_loop list cycle l some short from to none =
    let same : length (old_cells list) ≡ length list = length-map list old_cell
    in let closed = loaded_closed list cycle (length list) some from to
    in let few : length (old_cells list) ≤ max_list_frames = omega arith
    in let all : length list ≤ length list = omega arith
    in record {
      in_mode = (((closed, tt), closed.not_empty), tt);
      streak = refl;
      stack = record {
        layers_within = ((few, all), tt);
        redo_within = tt;
        pin_within = omega arith;
        count = omega arith;
        seams = omega arith;
        order = (omega arith, tt);
        redo_order = tt;
      };
      refused = omega arith;
    }

-- the parts behind it
abbrev pub loaded_parts : Parts → Held → Parts
loaded_parts s h = record s { layers = h; deck = record s.deck { mode = Paused } }

paused : (d : DeckOf) → d ≡ new_deck Off → record d { mode = Paused } ≡ new_deck Paused
paused d is = ap (λ (e : DeckOf). record e { mode = Paused }) is

-- a list on an empty stack
loaded_empty : {A : Type 0} (list : List A) (cycle : ℕ) →
    loaded list cycle empty_stack ≡ loaded_stack list cycle
loaded_empty {A} list cycle =
    let none : 0 + length list ≡ length list = omega arith
    in ap (λ n. let s : Stack A =
    record {
      layers = loaded_layer list cycle n ∷ [];
      redo = [];
      tape = n;
      pin = None;
      streak =
          None;
    } in s) none

-- the stack of addresses behind it
loaded_addresses : (s : Parts) (h : Held) (p p' : PoolOf) (list : List Sound) (cycle : ℕ) →
    IsNew (loop_of s) → Loads list cycle s.layers h p p' →
    h.stack ≡ loaded_stack (range_with_len 0 (length list)) cycle
loaded_addresses s h p p' list cycle n l =
    l.stack ∙ ap (λ (t : Stack ℕ). loaded (range_with_len t.tape (length list)) cycle t) n.stack
    ∙ loaded_empty (range_with_len 0 (length list)) cycle

loop_addresses : (s : Parts) (h : Held) (p p' : PoolOf) (list : List Sound) (cycle : ℕ) →
    IsNew (loop_of s) → Loads list cycle s.layers h p p' →
    loop_of (loaded_parts s h) ≡ loads (range_with_len 0 (length list)) cycle 0 (loop_of s)
loop_addresses s h p p' list cycle n l =
    ap (λ (d : DeckOf). let m : Loop ℕ = record (loop_of s) { deck = d; stack = h.stack } in m)
    (paused (loop_of s).deck n.deck)
    ∙ ap (λ (t : Stack ℕ). let m : Loop ℕ =
    record (loop_of s) { deck = new_deck Paused; stack = t } in m)
    (loaded_addresses s h p p' list cycle n l)

-- a loop that begins with a list is whole
pub whole_loaded : (s : Parts) (h : Held) (p p' : PoolOf) (list : List Sound) (cycle : ℕ) →
    IsWhole s → IsNew (loop_of s) → 1 ≤ length list → length list ≤ max_list_frames → 1 ≤ cycle →
    cycle ≤ length list →
    Loads list cycle s.layers h p p' → IsWhole (loaded_parts s h)
whole_loaded s h p p' list cycle w n some short from to l =
    let same : length (range_with_len 0 (length list)) ≡ length list =
    length-range_with_len 0 (length list)
    in record {
      loop = subst (λ (m : Loop ℕ). IsLoop m) (sym (loop_addresses s h p p' list cycle n l))
          (loaded_loop (range_with_len 0 (length list)) cycle (loop_of s) (omega arith)
          (omega arith) from (omega arith) n.refused);
      writing = l.writing;
      pinned = ap (λ (t : Stack ℕ). is_some t.pin) (loaded_addresses s h p p' list cycle n l)
          ∙ sym (ap (λ (t : Stack ℕ). is_some t.pin) n.stack) ∙ w.pinned;
      controls = w.controls;
    }

-- what it did
loaded_seen : (s : Parts) (h : Held) (p p' : PoolOf) (list : List Sound) (cycle : ℕ) →
    IsNew (loop_of s) → Loads list cycle s.layers h p p' →
    stack_map (at h.tape p') h.stack ≡ loaded_stack list cycle
loaded_seen s h p p' list cycle n l =
    l.seen ∙ ap (λ (t : Stack ℕ). loaded list cycle (stack_map (at s.layers.tape p) t)) n.stack
    ∙ loaded_empty list cycle

-- and is what the rules say
pub did_loaded : (s : Parts) (h : Held) (p p' : PoolOf) (list : List Sound) (cycle : ℕ) →
    Owns (strip_of s) p → IsNew (loop_of s) → IsShared h → Loads list cycle s.layers h p p' →
    Did (loads list cycle) (strip_of s) (strip_of (loaded_parts s h)) p p'
did_loaded s h p p' list cycle o n shared l =
    let f = at s.layers.tape p
    in did_kept (loads list cycle) s (loaded_parts s h) p p' o l.keeps shared
    (seen-is (strip_of (loaded_parts s h)) p'
    ∙ ap (λ (d : DeckOf). let m : Loop Sound = record (loop_map f (loop_of s))
    { deck = d; stack = stack_map (at h.tape p') h.stack } in m) (paused (loop_of s).deck n.deck)
    ∙ ap (λ (t : Stack Sound). let m : Loop Sound = record (loop_map f (loop_of s))
    { deck = new_deck Paused; stack = t } in m) (loaded_seen s h p p' list cycle n l)
    ∙ ap (λ (m : Loop Sound). loads list cycle (reach_in (strip_of s) p) m)
    (sym (seen-is (strip_of s) p)))

-- a new loop with a list is the one with which a run begins
begun_with : (list : List Sound) (cycle reach : ℕ) (settings : StripSettings) → 1 ≤ length list →
    loads list cycle reach (first_loop [] settings) ≡ first_loop list
    (record settings { cycle = cycle })
begun_with [] cycle reach settings some = absurd (omega (arith, some))
begun_with (x ∷ xs) cycle reach settings some = refl

-- with its settings it is a first loop
pub first_loaded : (s s' : StripOf) (p p' : PoolOf) (list : List Sound) (cycle : ℕ)
    (settings : StripSettings) → 1 ≤ length list → Did (loads list cycle) s s' p p' →
    seen s p ≡ first_loop [] settings →
    seen s' p' ≡ first_loop list (record settings { cycle = cycle })
first_loaded s s' p p' list cycle settings some d first =
    d.seen ∙ ap (loads list cycle (reach_in s p)) first
    ∙ begun_with list cycle (reach_in s p) settings some

pub ruleset loading = (
  new_closed,
  new_redo,
  new_pin,
  new_end,
  new_count,
  new_seams,
  new_room,
  whole_loaded,
  did_loaded,
)

pub ruleset beginning = (first_loaded)
