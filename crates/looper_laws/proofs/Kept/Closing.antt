-- A loop that closes its layer keeps what it has to keep.
use Rattle.std.proofs.Common.{◌≡◌, ℕ, suc, ◌+◌, ◌%◌, ◌≤◌, ◌<◌, Bool, true, false, List, [], ◌∷◌, length, take, Option, Some, None, refl, sym, ◌∙◌, subst, arith, nat_le, nat_lt, leb-true, ltb-true}
use Rattle.std.specs.Prelude.{⊤, ◌==◌}
use Rattle.std.proofs.lemmas.List.{length-take, length-take-le}
use Rattle.std.proofs.lemmas.Bool.{cond_both, eqb-false, leb-false}
use Rattle.std.proofs.lemmas.Bool.Decides.{nat_tests}
use Rattle.std.proofs.Math.Nat.{mod-lt}
use Rattle.sl_commands.specs.declared.Mode.{Mode}
use Rattle.sl_commands.specs.declared.Mode.TheVariants.{Off, Recording, Playing, Overdubbing, Multiplying, Inserting, Replacing, Substituting}
use Rattle.sl_base.specs.Limits.{max_list_frames}
use Rattle.looper_rules.specs.Layers.{Cell, Layer, unmarked, total_seams, with_current, without_current, current_length, current_base_length, current_end}
use Rattle.looper_rules.specs.Loop.{Loop, is_writing, length_of, base_length_of}
use Rattle.looper_rules.specs.Closing.{closing_cycle, closed_layer, finished_layer, finished, dropped, closes_as, closed_recording, multiply_cut, closed_from, closed}
use Rattle.looper_rules.specs.States.{IsClosed, IsRecorded, IsOpenOver, AreClosed, HasCurrent, ArePlayable, InMode, AreWithin, AreOrdered, GoOnFrom}
use Rattle.looper_rules.specs.Reached.{Unchanged, Keeps}
use Rattle.looper_laws.proofs.Kept.Decks.{no_streak}
use Rattle.looper_laws.proofs.Kept.Layers.{length-unmarked, unmarked-unmarked, total_seams-cons, length-with_current}

-- the cycle of a layer that closes: its length where it has none yet
closing_cycle-none : (cycle len : ℕ) → cycle ≡ 0 → closing_cycle cycle len ≡ len
closing_cycle-none cycle len none = Prim.grind (arith, nat_tests)

-- and its own otherwise
pub closing_cycle-some : (cycle len : ℕ) → 1 ≤ cycle → closing_cycle cycle len ≡ cycle
closing_cycle-some cycle len some = Prim.grind (arith, nat_tests)

-- a recorded layer that isn't empty is closed by closing it
recorded_closes : {A : Type 0} (tape : ℕ) (l : Layer A) → IsRecorded l → 1 ≤ length l.cells →
    IsClosed (finished_layer None tape l)
recorded_closes tape l h some =
    let same : length (unmarked l.cells) ≡ length l.cells = length-unmarked l.cells
    in let cycle : closing_cycle l.cycle (length l.cells) ≡ length l.cells =
    closing_cycle-none l.cycle (length l.cells) h.no_cycle
    in record {
      not_empty = omega arith;
      not_fresh = unmarked-unmarked l.cells;
      no_base = refl;
      no_base_seams = refl;
      cycle_from = omega arith;
      cycle_to = omega arith;
    }

-- a layer over a list is closed by closing it with these cells
cells_close :
    {A : Type 0} (cells : List (Cell A)) (tape : ℕ) (l : Layer A) → IsOpenOver l →
    length l.base ≤ length cells →
    IsClosed (closed_layer cells tape l)
cells_close cells tape l h fits =
    let same : length (unmarked cells) ≡ length cells = length-unmarked cells
    in let cycle : closing_cycle l.cycle (length cells) ≡ l.cycle =
    closing_cycle-some l.cycle (length cells) h.cycle_from
    in let from : 1 ≤ l.cycle = h.cycle_from
    in let to : l.cycle ≤ length l.base = h.cycle_to
    in record {
      not_empty = omega arith;
      not_fresh = unmarked-unmarked cells;
      no_base = refl;
      no_base_seams = refl;
      cycle_from = omega arith;
      cycle_to = omega arith;
    }

open_closes : {A : Type 0} (tape : ℕ) (l : Layer A) → IsOpenOver l →
    IsClosed (finished_layer None tape l)
open_closes tape l h = cells_close l.cells tape l h h.base_within

-- so it is where a multiply cuts it
cut_closes :
    {A : Type 0} (pos tape : ℕ) (l : Layer A) → IsOpenOver l → pos ≤ length l.cells →
    IsClosed (finished_layer (multiply_cut pos (length l.base)) tape l)
cut_closes pos tape l h inside =
    cond_both (nat_lt (length l.base) pos) (Some pos) None
    (λ cut. IsClosed (finished_layer cut tape l))
    (λ beyond. (let cut : length (take pos l.cells) ≡ pos = length-take-le pos l.cells inside in
    let above : length l.base < pos = ltb-true (length l.base) pos beyond in
    cells_close (take pos l.cells) tape l h (omega arith)))
    (λ within. open_closes tape l h)

-- a layer that closes has no more cells than before
closed_short :
    {A : Type 0} (cut : Option ℕ) (tape : ℕ) (l : Layer A) → length l.cells ≤ max_list_frames →
    length (finished_layer cut tape l).cells ≤ max_list_frames
closed_short None tape l short = rw length-unmarked short
closed_short (Some count) tape l short = rw (length-unmarked, length-take) (omega arith)

-- layers whose current one closes are within their limits
finished_within :
    {A : Type 0} (cut : Option ℕ) (tape : ℕ) (layers : List (Layer A)) → AreWithin tape layers →
    AreWithin tape (with_current (finished_layer cut tape) layers)
finished_within cut tape [] within = tt
finished_within cut tape (l ∷ ls) within =
    ((closed_short cut tape l within.0.0, (let same : tape ≤ tape = omega arith in same)), within.1)

-- they have as many seams
finished_seams :
    {A : Type 0} (cut : Option ℕ) (tape : ℕ) (layers : List (Layer A)) →
    total_seams (with_current (finished_layer cut tape) layers) ≡ total_seams layers
finished_seams cut tape [] = refl
finished_seams cut tape (l ∷ ls) = total_seams-cons (finished_layer cut tape l) ls
    ∙ sym (total_seams-cons l ls)

-- and are in order
finished_order :
    {A : Type 0} (cut : Option ℕ) (tape : ℕ) (layers : List (Layer A)) → AreWithin tape layers →
    AreOrdered layers →
    AreOrdered (with_current (finished_layer cut tape) layers)
finished_order cut tape [] within order = tt
finished_order cut tape (l ∷ ls) within order = (
  (let under : current_end ls ≤ l.end = order.0 in let last : l.end ≤ tape = within.0.1 in
      omega arith),
  order.1,
)

-- layers without the current one are within their limits
dropped_within : {A : Type 0} (tape : ℕ) (layers : List (Layer A)) → AreWithin tape layers →
    AreWithin tape (without_current layers)
dropped_within tape [] within = tt
dropped_within tape (l ∷ ls) within = within.1

dropped_count : {A : Type 0} (layers : List (Layer A)) →
    length (without_current layers) ≤ length layers
dropped_count [] = omega arith
dropped_count (l ∷ ls) = omega arith

dropped_seams : {A : Type 0} (layers : List (Layer A)) →
    total_seams (without_current layers) ≤ total_seams layers
dropped_seams [] = omega arith
dropped_seams (l ∷ ls) = let sum : total_seams (l ∷ ls) ≡ l.seams + total_seams ls =
    total_seams-cons l ls in omega arith

dropped_order : {A : Type 0} (layers : List (Layer A)) → AreOrdered layers →
    AreOrdered (without_current layers)
dropped_order [] order = tt
dropped_order (l ∷ ls) order = order.1

-- a loop that closes with these layers, in this mode and at this place
closes_with :
    {A : Type 0} {a : Unchanged} {l : Loop A} (mode : Mode) (pos : ℕ) (layers : List (Layer A)) →
    Keeps a l →
    InMode mode layers l.stack.redo pos l.deck.backward →
    AreWithin l.stack.tape layers → length layers ≤ length l.stack.layers →
    total_seams layers ≤ total_seams l.stack.layers → AreOrdered layers → l.stack.redo ≡ [] →
    Keeps a (closes_as mode pos (record l.stack { layers = layers; streak = None }) l)
closes_with {l = l} mode pos layers h in_mode within count seams order no_redo =
    record {
      loop = record {
        in_mode = in_mode;
        streak = no_streak mode pos l.deck.backward;
        stack = record {
          layers_within = within;
          redo_within = h.loop.stack.redo_within;
          pin_within = h.loop.stack.pin_within;
          count = (let before = h.loop.stack.count in omega arith);
          seams = (let before = h.loop.stack.seams in omega arith);
          order = order;
          redo_order = subst (λ redo. GoOnFrom (current_end layers) redo) (sym no_redo) tt;
        };
        refused = h.loop.refused;
      };
      reach = h.reach;
      pinned = h.pinned;
      controls = h.controls;
      press = h.press;
    }

-- a loop that closes a layer and keeps it
finishes :
    {A : Type 0} {a : Unchanged} {l : Loop A} (cut : Option ℕ) (pos : ℕ) → Keeps a l →
    l.stack.redo ≡ [] →
    ArePlayable (with_current (finished_layer cut l.stack.tape) l.stack.layers) pos →
    Keeps a (closes_as Playing pos (finished cut l.stack) l)
finishes {l = l} cut pos h no_redo playable =
    closes_with Playing pos (with_current (finished_layer cut l.stack.tape) l.stack.layers) h
    (playable, subst (λ redo. AreClosed redo) (sym no_redo) tt)
    (finished_within cut l.stack.tape l.stack.layers h.loop.stack.layers_within)
    (rw length-with_current (omega arith))
    (rw finished_seams (omega arith))
    (finished_order cut l.stack.tape l.stack.layers h.loop.stack.layers_within h.loop.stack.order)
    no_redo

-- a loop that removes its layer
drops :
    {A : Type 0} {a : Unchanged} {l : Loop A} (mode : Mode) → Keeps a l → l.stack.redo ≡ [] →
    InMode mode (without_current l.stack.layers) l.stack.redo 0 l.deck.backward →
    Keeps a (closes_as mode 0 (dropped l.stack) l)
drops {l = l} mode h no_redo in_mode =
    closes_with mode 0 (without_current l.stack.layers) h in_mode
    (dropped_within l.stack.tape l.stack.layers h.loop.stack.layers_within)
    (dropped_count l.stack.layers)
    (dropped_seams l.stack.layers)
    (dropped_order l.stack.layers h.loop.stack.order)
    no_redo

-- what is left where the only layer is removed
none_left : {A : Type 0} (layers : List (Layer A)) → nat_le (length layers) 1 ≡ true →
    without_current layers ≡ []
none_left [] single = refl
none_left (l ∷ []) single = refl
none_left (l ∷ k ∷ ls) single =
    absurd (let few : suc (suc (length ls)) ≤ 1 = leb-true (suc (suc (length ls))) 1 single in
    omega arith)

-- and where there are others
some_left :
    {A : Type 0} (Kind : Layer A → Type 0) (layers : List (Layer A)) →
    nat_le (length layers) 1 ≡ false → HasCurrent Kind layers →
    ArePlayable (without_current layers) 0
some_left Kind [] several has = absurd has
some_left Kind (l ∷ []) several has =
    absurd (let many : 1 < 1 = leb-false 1 1 several in omega arith)
some_left Kind (l ∷ k ∷ ls) several has = (has.1, has.1.0.not_empty)

-- a layer that was recorded, closed
recorded_playable :
    {A : Type 0} (tape : ℕ) (layers : List (Layer A)) → HasCurrent IsRecorded layers →
    1 ≤ current_length layers →
    ArePlayable (with_current (finished_layer None tape) layers) 0
recorded_playable tape [] has some = absurd has
recorded_playable tape (l ∷ ls) has some =
    ((recorded_closes tape l has.0 some, has.1), rw length-unmarked some)

-- a layer over a list, closed
open_playable :
    {A : Type 0} (tape pos : ℕ) (layers : List (Layer A)) → HasCurrent IsOpenOver layers →
    pos < current_length layers →
    ArePlayable (with_current (finished_layer None tape) layers) pos
open_playable tape pos [] has inside = absurd has
open_playable tape pos (l ∷ ls) has inside =
    ((open_closes tape l has.0, has.1), rw length-unmarked inside)

-- a multiplied layer, closed
multiplied_playable :
    {A : Type 0} (tape pos : ℕ) (layers : List (Layer A)) → HasCurrent IsOpenOver layers →
    pos ≤ current_length layers →
    ArePlayable (with_current (finished_layer (multiply_cut pos (current_base_length layers)) tape)
    layers) (pos % current_length
    (with_current (finished_layer (multiply_cut pos (current_base_length layers)) tape) layers))
multiplied_playable tape pos [] has inside = absurd has
multiplied_playable tape pos (l ∷ ls) has inside =
    let closed : IsClosed (finished_layer (multiply_cut pos (length l.base)) tape l) =
    cut_closes pos tape l has.0 inside
    in ((closed, has.1), mod-lt pos closed.not_empty)

-- a Recording closed
recording_closes :
    {A : Type 0} {a : Unchanged} {l : Loop A} (empty single : Bool) → (length_of l == 0) ≡ empty →
    nat_le (length l.stack.layers) 1 ≡ single → Keeps a l →
    InMode Recording l.stack.layers l.stack.redo l.deck.pos l.deck.backward →
    Keeps a (closed_recording empty single l)
recording_closes {l = l} true true nothing only h now =
    drops Off h now.1 (
      (none_left l.stack.layers only, refl),
      subst (λ redo. AreClosed redo) (sym now.1) tt,
    )
recording_closes {l = l} true false nothing several h now =
    drops Playing h now.1 (
      some_left IsRecorded l.stack.layers several now.0,
      subst (λ redo. AreClosed redo) (sym now.1) tt,
    )
recording_closes {l = l} false single some several h now =
    finishes None 0 h now.1
    (recorded_playable l.stack.tape l.stack.layers now.0 (let not_none : length_of l ≡ 0 →
    ⊥ = eqb-false (length_of l) 0 some in omega arith))

-- a loop in this writing mode closed
closed_from_keeps :
    {A : Type 0} {a : Unchanged} {l : Loop A} (mode : Mode) → is_writing mode ≡ true → Keeps a l →
    InMode mode l.stack.layers l.stack.redo l.deck.pos l.deck.backward →
    Keeps a (closed_from mode l)
closed_from_keeps {l = l} Recording writing h now =
    recording_closes (length_of l == 0) (nat_le (length l.stack.layers) 1) refl refl h now
closed_from_keeps {l = l} Multiplying writing h now =
    finishes (multiply_cut l.deck.pos (base_length_of l))
    (l.deck.pos % current_length
    (finished (multiply_cut l.deck.pos (base_length_of l)) l.stack).layers) h now.1
    (multiplied_playable l.stack.tape l.deck.pos l.stack.layers now.0 now.2)
closed_from_keeps {l = l} Overdubbing writing h now =
    finishes None l.deck.pos h now.1
    (open_playable l.stack.tape l.deck.pos l.stack.layers now.0 now.2)
closed_from_keeps {l = l} Replacing writing h now =
    finishes None l.deck.pos h now.1
    (open_playable l.stack.tape l.deck.pos l.stack.layers now.0 now.2)
closed_from_keeps {l = l} Substituting writing h now =
    finishes None l.deck.pos h now.1
    (open_playable l.stack.tape l.deck.pos l.stack.layers now.0 now.2)
closed_from_keeps {l = l} Inserting writing h now =
    finishes None l.deck.pos h now.0.1
    (open_playable l.stack.tape l.deck.pos l.stack.layers now.0.0 now.0.2)
closed_from_keeps _ writing h now = absurd (let no : ⊥ = Prim.cc in no)

pub closed_keeps : {A : Type 0} {a : Unchanged} {l : Loop A} → is_writing l.deck.mode ≡ true →
    Keeps a l → Keeps a (closed l)
closed_keeps {l = l} writing h = closed_from_keeps l.deck.mode writing h h.loop.in_mode

-- a mode to which closing leads
abbrev pub IsClosedMode : Mode → Type 0
IsClosedMode Off = ⊤
IsClosedMode Playing = ⊤
IsClosedMode _ = ⊥

recording_leads : {A : Type 0} (empty single : Bool) (l : Loop A) →
    IsClosedMode (closed_recording empty single l).deck.mode
recording_leads true true l = tt
recording_leads true false l = tt
recording_leads false single l = tt

closed_from_leads : {A : Type 0} (mode : Mode) (l : Loop A) →
    IsClosedMode (closed_from mode l).deck.mode
closed_from_leads Recording l =
    recording_leads (length_of l == 0) (nat_le (length l.stack.layers) 1) l
closed_from_leads Multiplying l = tt
closed_from_leads _ l = tt

-- closing leads to Off or Playing
pub closed_leads : {A : Type 0} (l : Loop A) → IsClosedMode (closed l).deck.mode
closed_leads l = closed_from_leads l.deck.mode l
