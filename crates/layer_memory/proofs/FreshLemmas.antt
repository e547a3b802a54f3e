-- Fresh cells: each stands alone, and where it lies.
use Rattle.std.proofs.Common.{◌≡◌, ◌≢◌, ◌≤◌, ◌<◌, ℕ, true, List, [], ◌∷◌, ◌++◌, length, Option, Some, None, refl, sym, ap, arith, suc, zero, get_or, IsTrue, is_some}
use Rattle.std.proofs.lemmas.List.{length-map}
use Rattle.std.specs.List.{AllByRecursion, insert}
use Rattle.std.specs.Prelude.{slice_set, slice_get, nat_le}
use Rattle.sl_commands.specs.declared.How.{How}
use Rattle.sl_commands.specs.declared.How.TheVariants.{Forward, Backward, Insert, Append}
use Rattle.looper_rules.specs.Layers.{Layer, contents, fresh_cell, is_fresh, current_end, current_cells, current_length}
use Rattle.looper_rules.specs.Stack.{Pin}
use Rattle.looper_rules.specs.Writing.{with_cell}
use Rattle.looper_rules.specs.Saves.{pinned}
use Rattle.loop_tape.specs.Tapes.{TapeOf}
use Rattle.lazy_fill.specs.Fills.{FillOf, IsFill}
use Rattle.lazy_fill.specs.Addresses.{Below, Without, Once}
use Rattle.lazy_fill.specs.Streaks.{with_address}
use Rattle.undo_stack.specs.Layered.{LayersOf}
use Rattle.layer_memory.specs.Kept.{LayerBelow, PinBelow, AtOnce, LayerWithout, PinWithout, Alone}
use Rattle.lazy_fill.specs.Marks.{marked, marked_cell}
use Rattle.layer_memory.specs.Inside.{base_on, stacked, pin_of, held_by, Holds}
use Rattle.layer_memory.specs.declared.layers.Top.{Top}
use Rattle.layer_memory.proofs.KeptLemmas.{ordered-below, base-below, contents-marked, pin-below}

-- a fresh address stands alone
below-without : (n a : ℕ) (xs : List ℕ) → n ≤ a → Below n xs → Without a xs
below-without n a [] le b = tt
below-without n a (x ∷ xs) le b = ((λ e. omega (arith, e, le, b.0)), below-without n a xs le b.1)

layers-without : (n a : ℕ) (ls : List (Layer ℕ)) → n ≤ a → AllByRecursion (LayerBelow n) ls →
    AllByRecursion (LayerWithout a) ls
layers-without n a [] le b = tt
layers-without n a (l ∷ ls) le b = (
  (below-without n a (contents l.cells) le b.0.0, below-without n a l.base le b.0.1),
  layers-without n a ls le b.1,
)

pin-without : (n a : ℕ) (p : Option (Pin ℕ)) → n ≤ a → PinBelow n p → PinWithout a p
pin-without n a None le b = tt
pin-without n a (Some p) le b = below-without n a p.list le b

without-at : (x k : ℕ) (xs : List ℕ) → k < length xs → Without x xs → get_or xs k 0 ≢ x
without-at x k [] lt w = grind arith
without-at x zero (y ∷ ys) lt w = w.0
without-at x (suc k) (y ∷ ys) lt w = without-at x k ys (omega (arith, lt)) w.1

fresh-marked : (floor x : ℕ) → floor ≤ x → marked_cell floor x ≡ fresh_cell x
fresh-marked floor x le = let e : nat_le floor x ≡ true = grind (arith, le) in rw e refl

at-once : (floor k : ℕ) (xs : List ℕ) → k < length xs → Once floor xs → floor ≤ get_or xs k 0 →
    AtOnce k (get_or xs k 0) (marked floor xs)
at-once floor k [] lt o le = grind arith
at-once floor zero (x ∷ xs) lt o le =
    (fresh-marked floor x le, rw (contents-marked floor xs) (o.0 le))
at-once floor (suc k) (x ∷ xs) lt o le = (
  (λ e. without-at x k xs (omega (arith, lt)) (o.0 (omega (arith, e, le))) (sym e)),
  at-once floor k xs (omega (arith, lt)) o.1 le,
)

-- a fresh address stands nowhere else
pub alone : (tape : TapeOf) (closed : LayersOf) (d : FillOf) (t : Top) (pin : Option ℕ)
    (pinned : List ℕ) (seams place a : ℕ) → Holds tape.len closed d (Some t) pin pinned seams →
    IsFill d → place < length d.cells → a ≡ get_or d.cells place 0 → d.floor ≤ a →
    Alone place a (held_by tape closed d (Some t) pin pinned).stack
alone tape closed d t pin pinned seams place a h i lt e le =
    let end : current_end closed.layers ≤ d.floor = let x = h.opened.end in
    let y = h.opened.floor in omega (arith, x, y) in
    record {
      layers = (
        (
          rw e (at-once d.floor place d.cells lt i.once (rw (sym e) le)),
          below-without d.floor a (base_on t.over closed.layers) le
              (base-below d.floor t.over closed.layers end h.ordered),
        ),
        layers-without d.floor a
            closed.layers le (ordered-below d.floor closed.layers end h.ordered),
      );
      redo = rw h.opened.no_redo tt;
      pin = pin-without d.floor a (pin_of pin pinned) le
          (pin-below d.floor (pin_of pin pinned) h.opened.pin_within);
    }

-- and so whether a layer is open or not
pub alone-in : (tape : TapeOf) (closed : LayersOf) (d : FillOf) (top : Option Top) (pin : Option ℕ)
    (pinned : List ℕ) (seams place a : ℕ) → IsTrue (is_some top) →
    Holds tape.len closed d top pin pinned seams → IsFill d → place < length d.cells →
    a ≡ get_or d.cells place 0 → d.floor ≤ a →
    Alone place a (held_by tape closed d top pin pinned).stack
alone-in tape closed d None pin pinned seams place a w h i lt e le = grind (arith, w)
alone-in tape closed d (Some t) pin pinned seams place a w h i lt e le =
    alone tape closed d t pin pinned seams place a h i lt e le

-- marks
pub stale : (floor k : ℕ) (xs : List ℕ) → k < length xs →
    is_fresh (slice_get (marked floor xs) k) ≡ nat_le floor (get_or xs k 0)
stale floor k [] lt = grind arith
stale floor zero (x ∷ xs) lt = refl
stale floor (suc k) (x ∷ xs) lt = stale floor k xs (omega (arith, lt))

-- a place of the list is one of the open layer
pub place-in : (top : Option Top) (d : FillOf) (closed : List (Layer ℕ)) (place : ℕ) →
    IsTrue (is_some top) → place < current_length (stacked top d closed) → place < length d.cells
place-in None d closed place w lt = grind (arith, w)
place-in (Some t) d closed place w lt = let h = length-map d.cells (marked_cell d.floor) in
    omega (arith, h, lt)

-- whether the cell at a place is fresh
pub stale-in : (top : Option Top) (d : FillOf) (closed : List (Layer ℕ)) (place : ℕ) →
    IsTrue (is_some top) → place < length d.cells →
    is_fresh (slice_get (current_cells (stacked top d closed)) place) ≡ nat_le d.floor
    (get_or d.cells place 0)
stale-in None d closed place w lt = grind (arith, w)
stale-in (Some t) d closed place w lt = stale d.floor place d.cells lt

marked-set : (floor : ℕ) (xs : List ℕ) (k a : ℕ) → floor ≤ a →
    marked floor (slice_set xs k a) ≡ slice_set (marked floor xs) k (fresh_cell a)
marked-set floor [] k a le = refl
marked-set floor (x ∷ xs) zero a le = rw (fresh-marked floor a le) refl
marked-set floor (x ∷ xs) (suc k) a le =
    ap (λ t. marked_cell floor x ∷ t) (marked-set floor xs k a le)

marked-insert : (floor : ℕ) (xs : List ℕ) (k a : ℕ) → floor ≤ a →
    marked floor (insert xs k a) ≡ insert (marked floor xs) k (fresh_cell a)
marked-insert floor [] zero a le = rw (fresh-marked floor a le) refl
marked-insert floor [] (suc k) a le = rw (fresh-marked floor a le) refl
marked-insert floor (x ∷ xs) zero a le = rw (fresh-marked floor a le) refl
marked-insert floor (x ∷ xs) (suc k) a le =
    ap (λ t. marked_cell floor x ∷ t) (marked-insert floor xs k a le)

marked-append : (floor : ℕ) (xs : List ℕ) (a : ℕ) → floor ≤ a →
    marked floor (xs ++ a ∷ []) ≡ marked floor xs ++ fresh_cell a ∷ []
marked-append floor [] a le = rw (fresh-marked floor a le) refl
marked-append floor (x ∷ xs) a le = ap (λ t. marked_cell floor x ∷ t) (marked-append floor xs a le)

-- marks with a fresh cell written
pub marked-written : (floor : ℕ) (how : How) (place a : ℕ) (xs : List ℕ) → floor ≤ a →
    marked floor (with_address how place a xs) ≡ with_cell how place (fresh_cell a)
    (marked floor xs)
marked-written floor Forward place a xs le = marked-set floor xs place a le
marked-written floor Backward place a xs le = marked-set floor xs place a le
marked-written floor Insert place a xs le = marked-insert floor xs place a le
marked-written floor Append place a xs le = marked-append floor xs a le

pub ruleset freshes = (alone-in, stale-in, place-in)
