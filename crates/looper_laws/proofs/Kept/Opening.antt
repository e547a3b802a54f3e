-- A loop that opens a layer keeps what it has to keep.
use Rattle.std.proofs.Common.{◌≡◌, ℕ, ◌+◌, ◌-◌, ◌≤◌, ◌<◌, Bool, true, false, List, [], ◌∷◌, length, refl, arith, ltb-false, leb-false}
use Rattle.std.proofs.lemmas.List.{length-map}
use Rattle.sl_commands.specs.declared.Mode.{Mode}
use Rattle.sl_commands.specs.declared.Mode.TheVariants.{Overdubbing, Multiplying, Inserting, Replacing, Substituting}
use Rattle.sl_commands.specs.declared.Started.{Started}
use Rattle.sl_commands.specs.declared.Started.TheVariants.{Ok}
use Rattle.sl_base.specs.Limits.{max_layers, max_seams, max_list_frames}
use Rattle.looper_rules.specs.Layers.{Layer, total_seams, current_length, current_end}
use Rattle.looper_rules.specs.Stack.{Stack, pinned_tape}
use Rattle.looper_rules.specs.Room.{chunks_of}
use Rattle.looper_rules.specs.Opening.{opening_tape, opening_seams, first_refusal, opening, new_layer, opened}
use Rattle.looper_rules.specs.Loop.{Loop}
use Rattle.looper_rules.specs.Starting.{records, layers_on, starts}
use Rattle.looper_rules.specs.States.{IsOpenOver, AreClosed, ArePlayable, AreWritten, InMode, AreWithin, AreOrdered, IsStack}
use Rattle.looper_rules.specs.Reached.{Unchanged, Keeps, IsLayering}
use Rattle.looper_laws.proofs.Kept.Decks.{refused_keeps, no_streak}
use Rattle.looper_laws.proofs.Kept.Layers.{length-unmarked, total_seams-cons, chunks_of_le, current_end_within, ordered_within}

-- an opening that isn't refused has a layer and seams left
pub not_refused : (layers seams room : Bool) → first_refusal layers seams room ≡ Ok →
    (layers ≡ false) × (seams ≡ false)
not_refused true seams room ok = absurd (let none : ⊥ = Prim.cc in none)
not_refused false true room ok = absurd (let none : ⊥ = Prim.cc in none)
not_refused false false true ok = (refl, refl)
not_refused false false false ok = (refl, refl)

-- the new layer ends at the tape
new_layer-end : {A : Type 0} (empty : Bool) (tape : ℕ) (layers : List (Layer A)) →
    (new_layer empty tape layers).end ≡ tape
new_layer-end true tape layers = refl
new_layer-end false tape [] = refl
new_layer-end false tape (l ∷ ls) = refl

-- its seams are those that the opening counts
new_layer-seams : {A : Type 0} (empty : Bool) (tape : ℕ) (layers : List (Layer A)) →
    (new_layer empty tape layers).seams ≡ opening_seams empty layers
new_layer-seams true tape layers = refl
new_layer-seams false tape [] = refl
new_layer-seams false tape (l ∷ ls) = refl

-- its list is no longer than another
new_layer_short :
    {A : Type 0} (empty : Bool) (tape last : ℕ) (layers : List (Layer A)) → AreWithin last layers →
    length (new_layer empty tape layers).cells ≤ max_list_frames
new_layer_short true tape last layers within = omega arith
new_layer_short false tape last [] within = omega arith
new_layer_short false tape last (l ∷ ls) within = rw length-unmarked within.0.0

-- a layer that is opened over a list is a copy of it
copies :
    {A : Type 0} (tape pos : ℕ) (layers : List (Layer A)) → ArePlayable layers pos →
    IsOpenOver (new_layer false tape layers) × (pos < length (new_layer false tape layers).cells)
copies tape pos [] playable = absurd (omega arith)
copies tape pos (l ∷ ls) (closed, inside) = (
  record {
    base_not_empty = rw length-map closed.0.not_empty;
    base_within = rw (length-unmarked, length-map) (omega arith);
    cycle_from = closed.0.cycle_from;
    cycle_to = rw length-map closed.0.cycle_to;
  },
  rw length-unmarked inside,
)

-- the new layer is in order
opening_order : {A : Type 0} (empty : Bool) (s : Stack A) → AreOrdered s.layers →
    AreOrdered (opened empty s).layers
opening_order empty s order =
    ((let e = new_layer-end empty (opening_tape s) s.layers in omega arith), order)

-- a stack with a layer opened is within its limits
opened_stack :
    {A : Type 0} (reach : ℕ) (empty : Bool) (s : Stack A) → IsStack s → opening reach empty s ≡ Ok →
    IsStack (opened empty s)
opened_stack reach empty s h ok =
    let room = not_refused _ _ _ ok
    in let few : length s.layers < max_layers = leb-false max_layers (length s.layers) room.0
    in let seams : total_seams s.layers + opening_seams empty s.layers ≤ max_seams - 2 =
    ltb-false (max_seams - 2) (total_seams s.layers + opening_seams empty s.layers) room.1
    in let new : Layer _ = new_layer empty (opening_tape s) s.layers
    in let under : current_end s.layers ≤ opening_tape s = omega arith
    in record {
      layers_within = (
        (
          new_layer_short empty (opening_tape s) s.tape s.layers h.layers_within,
          (let e : new.end ≡ opening_tape s = new_layer-end empty (opening_tape s) s.layers in
              omega arith),
        ),
        ordered_within (opening_tape s) s.tape s.layers h.order under
            h.layers_within,
      );
      redo_within = tt;
      pin_within = omega arith;
      count = omega arith;
      seams = rw (total_seams-cons, new_layer-seams) (omega arith);
      order = opening_order empty s h.order;
      redo_order = tt;
    }

-- the tape of an opening takes no more chunks
opening_reach : {A : Type 0} (reach : ℕ) (s : Stack A) → IsStack s → chunks_of s.tape ≤ reach →
    chunks_of (opening_tape s) ≤ reach
opening_reach reach s h within =
    let pin : pinned_tape s.pin ≤ s.tape = h.pin_within
    in let end : current_end s.layers ≤ s.tape = current_end_within s.tape s.layers h.layers_within
    in let less : chunks_of (opening_tape s) ≤ chunks_of s.tape =
    chunks_of_le (opening_tape s) s.tape (omega arith)
    in omega arith

-- opening for `record`
pub opens_record :
    {A : Type 0} {a : Unchanged} {l : Loop A} (reach : ℕ) → Keeps a l → AreClosed l.stack.layers →
    opening reach true l.stack ≡ Ok →
    Keeps a (records Ok l)
opens_record {l = l} reach h closed ok =
    record {
      loop = record {
        in_mode = (
          (record { no_base = refl; no_base_seams = refl; no_cycle = refl }, closed),
          refl,
          refl,
          refl,
        );
        streak = tt;
        stack = opened_stack reach true l.stack h.loop.stack ok;
        refused =
            h.loop.refused;
      };
      reach = opening_reach _ l.stack h.loop.stack h.reach;
      pinned =
          h.pinned;
      controls = h.controls;
      press = h.press;
    }

-- layers that are written are those of such a mode
pub written_in :
    {A : Type 0} (mode : Mode) (layers redo : List (Layer A)) (pos : ℕ) (backward : Bool) →
    IsLayering mode backward →
    AreWritten layers redo pos → InMode mode layers redo pos backward
written_in Overdubbing layers redo pos backward way h = h
written_in Replacing layers redo pos backward way h = h
written_in Substituting layers redo pos backward way h = h
written_in Inserting layers redo pos backward way h = (h, way)
written_in Multiplying layers redo pos backward way h =
    (h.0, h.1, (let below : pos < current_length layers = h.2 in omega arith), way)
written_in _ layers redo pos backward way h = absurd way

-- opening for another writing verb
pub opens_over :
    {A : Type 0} {a : Unchanged} {l : Loop A} (reach : ℕ) (mode : Mode) →
    IsLayering mode l.deck.backward → Keeps a l →
    ArePlayable l.stack.layers l.deck.pos → opening reach false l.stack ≡ Ok →
    Keeps a (layers_on Ok mode l)
opens_over {l = l} reach mode way h playable ok =
    let copied = copies (opening_tape l.stack) l.deck.pos l.stack.layers playable
    in record {
      loop =
          record {
            in_mode =
                written_in mode (opened false l.stack).layers [] l.deck.pos l.deck.backward way
                ((copied.0, playable.0), refl, copied.1);
            streak = no_streak mode l.deck.pos l.deck.backward;
            stack = opened_stack reach false l.stack h.loop.stack ok;
            refused = h.loop.refused;
          };
      reach = opening_reach _ l.stack h.loop.stack h.reach;
      pinned = h.pinned;
      controls =
          h.controls;
      press = h.press;
    }

-- starting `record`, by what becomes of the opening
records_as :
    {A : Type 0} {a : Unchanged} {l : Loop A} (answer : Started) →
    (answer ≡ Ok → Keeps a (records Ok l)) → Keeps a l →
    Keeps a (records answer l)
records_as Ok opens h = opens refl
records_as _ opens h = refused_keeps h

pub records_keeps : {A : Type 0} {a : Unchanged} {l : Loop A} (reach : ℕ) → Keeps a l →
    AreClosed l.stack.layers → Keeps a (records (opening reach true l.stack) l)
records_keeps {l = l} reach h closed =
    records_as (opening reach true l.stack) (opens_record reach h closed) h

-- starting another writing verb, by what becomes of the opening
layers_on_as :
    {A : Type 0} {a : Unchanged} {l : Loop A} (answer : Started) (mode : Mode) →
    (answer ≡ Ok → Keeps a (layers_on Ok mode l)) →
    Keeps a l → Keeps a (layers_on answer mode l)
layers_on_as Ok mode opens h = opens refl
layers_on_as _ mode opens h = refused_keeps h

pub starts_keeps :
    {A : Type 0} {a : Unchanged} {l : Loop A} (reach : ℕ) (mode : Mode) →
    IsLayering mode l.deck.backward → Keeps a l →
    ArePlayable l.stack.layers l.deck.pos → Keeps a (starts mode reach l)
starts_keeps {l = l} reach mode way h playable =
    layers_on_as (opening reach false l.stack) mode (opens_over reach mode way h playable) h
