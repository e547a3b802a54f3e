-- What extending and removing the open layer leave.
use Rattle.std.proofs.Common.{◌≡◌, ◌≤◌, ◌<◌, ℕ, ◌+◌, Bool, true, false, List, ◌++◌, length, Option, Some, None, refl, arith, IsTrue, is_some}
use Rattle.std.proofs.lemmas.List.Sums.{sum_by-cons}
use Rattle.looper_rules.specs.Layers.{Layer, old_cells, total_seams, current_end, current_seams, seams_of, current_list, current_base_length, current_base_seams}
use Rattle.looper_rules.specs.Writing.{extended}
use Rattle.looper_rules.specs.Saves.{pinned}
use Rattle.pieces.specs.Pieces.{Piece, addresses}
use Rattle.loop_tape.specs.Tapes.{TapeOf}
use Rattle.lazy_fill.specs.Fills.{FillOf, fill_extended}
use Rattle.lazy_fill.specs.Addresses.{Below}
use Rattle.undo_stack.specs.Layered.{LayersOf}
use Rattle.layer_memory.specs.Kept.{Ordered}
use Rattle.lazy_fill.specs.Marks.{marked, marked_cell}
use Rattle.layer_memory.specs.Inside.{base_on, base_seams_on, open_layer, stacked, held_by, MayBeOpen}
use Rattle.layer_memory.specs.declared.layers.Top.{Top}
use Rattle.layer_memory.proofs.SeenLemmas.{dropped-mapped, extended-mapped, extension-mapped, extended_if-mapped, append-mapped}
use Rattle.layer_memory.proofs.KeptLemmas.{contents-marked, end-within, current-total, list-below, marked-below}

based-on : (over : Bool) (t : Top) (d : FillOf) (closed : List (Layer ℕ)) →
    0 < length (base_on over closed) → (length (base_on over closed) ≡ length (current_list closed))
    × (base_seams_on over closed ≡ current_seams closed)
based-on true t d closed lt = (refl, refl)
based-on false t d closed lt = grind (arith, lt)

-- a base that isn't empty is the list below
pub based : (top : Option Top) (d : FillOf) (closed : List (Layer ℕ)) →
    0 < current_base_length (stacked top d closed) → IsTrue (is_some top) →
    (current_base_length (stacked top d closed) ≡ length (current_list closed))
    × (current_base_seams (stacked top d closed) ≡ current_seams closed)
based None d closed lt w = grind (arith, w)
based (Some t) d closed lt w = based-on t.over t d closed lt

marked-extended : (floor : ℕ) (xs ys : List ℕ) → Below floor ys →
    marked floor (xs ++ ys) ≡ marked floor xs ++ old_cells ys
marked-extended floor xs ys b =
    rw (append-mapped (marked_cell floor) xs ys, marked-below floor ys b) refl

stack-extended-on : (over : Bool) (tape : TapeOf) (closed : LayersOf) (d d' : FillOf)
    (cycle end : ℕ) (pin : Option ℕ) (pinned : List ℕ) → 0 < length (base_on over closed.layers) →
    Below d.floor (current_list closed.layers) → d'.cells ≡ d.cells ++ current_list closed.layers →
    d'.seams ≡ d.seams + current_seams closed.layers → d'.floor ≡ d.floor → d'.streak ≡ d.streak →
    (held_by tape closed d' (Some (record { over = over; cycle = cycle; end = end })) pin
    pinned).stack ≡ extended
    (held_by tape closed d (Some (record { over = over; cycle = cycle; end = end })) pin
    pinned).stack
stack-extended-on true tape closed d d' cycle end pin pinned lt b ec es ef er =
    rw (ec, es, ef, er, marked-extended d.floor d.cells (current_list closed.layers) b) refl
stack-extended-on false tape closed d d' cycle end pin pinned lt b ec es ef er = grind (arith, lt)

-- the base behind the open layer
pub stack-extended : (tape : TapeOf) (closed : LayersOf) (d d' : FillOf) (top : Option Top)
    (pin : Option ℕ) (pinned : List ℕ) (ps : List Piece) (more : ℕ) → IsTrue (is_some top) →
    0 < current_base_length (stacked top d closed.layers) → Ordered closed.layers →
    MayBeOpen tape.len closed d top pin pinned → addresses ps ≡ current_list closed.layers →
    more ≡ current_seams closed.layers → d' ≡ fill_extended ps more d →
    (held_by tape closed d' top pin pinned).stack ≡ extended
    (held_by tape closed d top pin pinned).stack
stack-extended tape closed d d' None pin pinned ps more w lt o m ex em ed = grind (arith, w)
stack-extended tape closed d d' (Some t) pin pinned ps more w lt o m ex em ed =
    let le : current_end closed.layers ≤ d.floor = let x = m.end in let y = m.floor in
    omega (arith, x, y) in
    stack-extended-on t.over tape closed d d' t.cycle t.end pin pinned lt
    (list-below d.floor closed.layers le o) (rw (ed, ex) refl) (rw (ed, em) refl) (rw ed refl)
    (rw ed refl)

-- the current list of closed layers is below the floor
pub open-floor : (tape : ℕ) (closed : LayersOf) (d : FillOf) (top : Option Top) (pin : Option ℕ)
    (pinned xs : List ℕ) → IsTrue (is_some top) → Ordered closed.layers →
    MayBeOpen tape closed d top pin pinned → xs ≡ current_list closed.layers → Below d.floor xs
open-floor tape closed d None pin pinned xs w o m e = grind (arith, w)
open-floor tape closed d (Some t) pin pinned xs w o m e = rw e
    (list-below d.floor closed.layers (let x = m.end in let y = m.floor in omega (arith, x, y)) o)

pub ruleset extends = (based, stack-extended, open-floor, current-total)

pub ruleset ends = (extended-mapped, extension-mapped, extended_if-mapped)

-- the seams with the open layer
pub open-total : (top : Option Top) (d : FillOf) (closed : List (Layer ℕ)) → IsTrue (is_some top) →
    total_seams (stacked top d closed) ≡ d.seams + total_seams closed
open-total None d closed w = grind (arith, w)
open-total (Some t) d closed w = sum_by-cons seams_of (open_layer t d closed) closed

pub ruleset drops = (dropped-mapped, open-total)
