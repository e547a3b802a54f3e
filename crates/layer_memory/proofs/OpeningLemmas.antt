-- What an opening leaves.
use Rattle.std.proofs.Common.{◌≡◌, ◌≤◌, ◌<◌, ℕ, ◌+◌, Bool, true, false, List, [], ◌∷◌, length, Option, Some, None, refl, arith, IsFalse, is_some}
use Rattle.std.proofs.lemmas.List.Sums.{sum_by-cons}
use Rattle.std.specs.Prelude.{max}
use Rattle.sl_base.specs.Limits.{max_seams, max_layers}
use Rattle.looper_rules.specs.Layers.{Layer, contents, total_seams, current_end, current_seams, current_cycle, seams_of, current_list}
use Rattle.looper_rules.specs.Stack.{Pin, pinned_tape}
use Rattle.looper_rules.specs.Opening.{opened, opening_tape, new_layer}
use Rattle.looper_rules.specs.Saves.{pinned}
use Rattle.pieces.specs.Pieces.{Piece, addresses}
use Rattle.loop_tape.specs.Pools.{PoolOf}
use Rattle.loop_tape.specs.Tapes.{TapeOf, at, IsWhole, Cut}
use Rattle.lazy_fill.specs.Fills.{FillOf, fill_started}
use Rattle.lazy_fill.specs.Addresses.{Below}
use Rattle.undo_stack.specs.Layered.{LayersOf}
use Rattle.layer_memory.specs.Kept.{StackBelow, Ordered, PinWithin}
use Rattle.layer_memory.specs.Seen.{Held, seen}
use Rattle.layer_memory.specs.Answers.{Keeps, Opens, IsOpening}
use Rattle.layer_memory.specs.Inside.{open_layer, pin_of, held_by, Holds}
use Rattle.layer_memory.specs.declared.layers.Top.{Top}
use Rattle.layer_memory.proofs.SeenLemmas.{opening-mapped, opened-mapped, stack-agrees}
use Rattle.layer_memory.proofs.KeptLemmas.{end-within, current-total, list-below, marked-below}

-- what is kept where a layer is opened
pin-opened : (tape n : ℕ) (p : Option (Pin ℕ)) → pinned_tape p ≤ n → PinWithin tape p →
    PinWithin n p
pin-opened tape n None le w = tt
pin-opened tape n (Some p) le w = (le, w.1)

-- what is kept where a layer is opened
pub begun : (tape n : ℕ) (closed closed' : LayersOf) (d d' : FillOf) (t : Top) (pin : Option ℕ)
    (pinned : List ℕ) (seams seams' : ℕ) → Holds tape closed d None pin pinned seams →
    n ≡ max (current_end closed.layers) (pinned_tape (pin_of pin pinned)) →
    closed'.layers ≡ closed.layers → closed'.redo ≡ [] → d'.floor ≡ n → d'.next ≡ n → t.end ≡ n →
    length closed.layers < max_layers → total_seams closed.layers + d'.seams ≤ max_seams →
    seams' ≡ seams + d'.seams → Holds n closed' d' (Some t) pin pinned seams'
begun tape n closed closed' d d' t pin pinned seams seams' h en el er ef ex et count few es =
    let le : current_end closed.layers ≤ n = omega (arith, en) in
    let lp : pinned_tape (pin_of pin pinned) ≤ n = omega (arith, en) in
    let w = pin-opened tape n (pin_of pin pinned) lp h.pin_within in
    record {
      ordered = rw el h.ordered;
      goes_on = rw (el, er) le;
      pin_within = w;
      opened = record {
        next = ex;
        no_redo = er;
        end = rw el (omega (arith, le, et));
        floor = omega (arith, et, ef);
        pin_within = rw ef w;
        count = rw el count;
        few = rw el few;
      };
      total = rw el (let s = sum_by-cons seams_of (open_layer t d' closed.layers) closed.layers in
          omega (arith, s, es, h.total));
    }

-- the copy of a layer
pub copied : (n : ℕ) (ls : List (Layer ℕ)) (d : FillOf) → 0 < length ls →
    Below n (current_list ls) → d.cells ≡ current_list ls → d.floor ≡ n →
    d.seams ≡ current_seams ls →
    open_layer (record { over = true; cycle = current_cycle ls; end = n }) d ls ≡ new_layer false n
    ls
copied n [] d lt b ec ef es = grind arith
copied n (l ∷ ls) d lt b ec ef es = rw (ec, ef, es, marked-below n (contents l.cells) b) refl

-- an opening, with the pool
pub opened-seen : (h h' : Held) (p p' : PoolOf) (empty : Bool) → h'.stack ≡ opened empty h.stack →
    h'.stack.tape ≡ h'.tape.len → StackBelow h'.tape.len h'.stack → Cut h.tape h'.tape p p' →
    seen h' p' ≡ opened empty (seen h p)
opened-seen h h' p p' empty e n b c =
    let agree = stack-agrees (at h'.tape p') (at h.tape p) h'.tape.len h'.stack c.kept b in
    rw (agree, e) (opened-mapped (at h.tape p) empty h.stack)

-- an opening keeps the tape's own
pub opened-keeps : (h h' : Held) (p p' : PoolOf) → IsWhole h'.tape → Cut h.tape h'.tape p p' →
    Keeps h h' p p'
opened-keeps h h' p p' whole c =
    record { owns = c.owned; whole = whole; others = c.others; reached = c.chunks; all = c.all }

-- and all that an opening leaves
pub opens : (h h' : Held) (p p' : PoolOf) (empty : Bool) → h'.stack ≡ opened empty h.stack →
    h'.writing ≡ true → h'.stack.tape ≡ h'.tape.len → IsWhole h'.tape →
    StackBelow h'.tape.len h'.stack → Cut h.tape h'.tape p p' → Opens empty h h' p p'
opens h h' p p' empty e w n whole b c =
    record {
      stack = e;
      seen = opened-seen h h' p p' empty e n b c;
      writing = w;
      frames =
          c.store;
      keeps = opened-keeps h h' p p' whole c;
    }

pub ruleset starts = (opens, opening-mapped)

-- the stack with a copy of its current layer
pub stack-begun : (tape tape' : TapeOf) (closed closed' : LayersOf) (d d' : FillOf)
    (top : Option Top) (t : Top) (pin : Option ℕ) (pinned : List ℕ) (n : ℕ) (ps : List Piece)
    (seams : ℕ) → IsFalse (is_some top) → 0 < length closed.layers → Ordered closed.layers →
    n ≡ opening_tape (held_by tape closed d top pin pinned).stack → tape'.len ≡ n →
    closed'.layers ≡ closed.layers → closed'.redo ≡ [] →
    addresses ps ≡ current_list closed'.layers → seams ≡ current_seams closed'.layers →
    d' ≡ fill_started ps seams n →
    t ≡ record { over = true; cycle = current_cycle closed'.layers; end = n } →
    (held_by tape' closed' d' (Some t) pin pinned).stack ≡ opened false
    (held_by tape closed d top pin pinned).stack
stack-begun tape tape' closed closed' d d' (Some u) t pin pinned n ps seams w lt o en et el er ep es
    ed ett = grind (arith, w)
stack-begun tape tape' closed closed' d d' None t pin pinned n ps seams w lt o en et el er ep es ed
    ett =
    let b : Below n (current_list closed.layers) =
    list-below n closed.layers (omega (arith, en)) o in
    let ec : d'.cells ≡ current_list closed.layers = rw (ed, ep, el) refl in
    let ef : d'.floor ≡ n = rw ed refl in
    let eq : d'.seams ≡ current_seams closed.layers = rw (ed, es, el) refl in
    let er2 : d'.streak ≡ None = rw ed refl in
    rw (el, er, ett, el, et, er2, copied n closed.layers d' lt b ec ef eq, en) refl

-- the stack with an empty layer
pub stack-begun-empty : (tape tape' : TapeOf) (closed closed' : LayersOf) (d d' : FillOf)
    (top : Option Top) (t : Top) (pin : Option ℕ) (pinned : List ℕ) (n : ℕ) →
    IsFalse (is_some top) → n ≡ opening_tape (held_by tape closed d top pin pinned).stack →
    tape'.len ≡ n → closed'.layers ≡ closed.layers → closed'.redo ≡ [] → d' ≡ fill_started [] 0 n →
    t ≡ record { over = false; cycle = 0; end = n } →
    (held_by tape' closed' d' (Some t) pin pinned).stack ≡ opened true
    (held_by tape closed d top pin pinned).stack
stack-begun-empty tape tape' closed closed' d d' (Some u) t pin pinned n w en et el er ed ett =
    grind (arith, w)
stack-begun-empty tape tape' closed closed' d d' None t pin pinned n w en et el er ed ett =
    rw (el, er, ett, et, ed, en) refl

-- what is kept where a copy is opened
pub begun-over : (tape : TapeOf) (n : ℕ) (closed closed' : LayersOf) (d d' : FillOf)
    (top : Option Top) (t : Top) (pin : Option ℕ) (pinned : List ℕ) (ps : List Piece)
    (seams more seams' : ℕ) → IsFalse (is_some top) → Holds tape.len closed d top pin pinned seams →
    IsOpening false (held_by tape closed d top pin pinned).stack →
    n ≡ opening_tape (held_by tape closed d top pin pinned).stack → closed'.layers ≡ closed.layers →
    closed'.redo ≡ [] → d' ≡ fill_started ps more n → more ≡ current_seams closed'.layers →
    t.end ≡ n → seams' ≡ seams + more → Holds n closed' d' (Some t) pin pinned seams'
begun-over tape n closed closed' d d' (Some u) t pin pinned ps seams more seams' w h o en el er ed
    em et es = grind (arith, w)
begun-over tape n closed closed' d d' None t pin pinned ps seams more seams' w h o en el er ed em et
    es =
    let m : more ≡ current_seams closed.layers = rw el at em in
    let q : d'.seams ≡ more = rw ed refl in
    let few = o.seams in
    begun tape.len n closed closed' d d' t pin pinned seams seams' h en el er (rw ed refl)
    (rw ed refl) et o.few (omega (arith, few, m, q)) (omega (arith, es, q))

-- what is kept where an empty layer is opened
pub begun-empty : (tape : TapeOf) (n : ℕ) (closed closed' : LayersOf) (d d' : FillOf)
    (top : Option Top) (t : Top) (pin : Option ℕ) (pinned : List ℕ) (seams : ℕ) →
    IsFalse (is_some top) → Holds tape.len closed d top pin pinned seams →
    IsOpening true (held_by tape closed d top pin pinned).stack →
    n ≡ opening_tape (held_by tape closed d top pin pinned).stack → closed'.layers ≡ closed.layers →
    closed'.redo ≡ [] → d' ≡ fill_started [] 0 n → t.end ≡ n →
    Holds n closed' d' (Some t) pin pinned seams
begun-empty tape n closed closed' d d' (Some u) t pin pinned seams w h o en el er ed et =
    grind (arith, w)
begun-empty tape n closed closed' d d' None t pin pinned seams w h o en el er ed et =
    let q : d'.seams ≡ 0 = rw ed refl in
    let few = o.seams in
    begun tape.len n closed closed' d d' t pin pinned seams seams h en el er (rw ed refl)
    (rw ed refl) et o.few (omega (arith, few, q)) (omega (arith, q))

pub ruleset begins =
    (end-within, current-total, begun-over, begun-empty, stack-begun, stack-begun-empty)
