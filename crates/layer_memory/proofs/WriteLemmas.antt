-- What a write leaves.
use Rattle.std.proofs.Common.{◌≡◌, ◌≢◌, ◌≤◌, ◌<◌, ℕ, ◌+◌, true, false, List, [], ◌∷◌, length, Option, Some, None, refl, sym, ap, arith, IsTrue, is_some}
use Rattle.std.proofs.lemmas.List.Sums.{sum_by-cons}
use Rattle.sl_base.specs.Limits.{max_seams}
use Rattle.sl_base.specs.Sounds.{Sound}
use Rattle.sl_commands.specs.declared.How.{How}
use Rattle.looper_rules.specs.Layers.{Layer, total_seams, current_end, seams_of}
use Rattle.looper_rules.specs.Stack.{Stack, Pin, streak_broken}
use Rattle.looper_rules.specs.Mapping.{stack_map}
use Rattle.looper_rules.specs.Writing.{overwrites, meets_fresh, new_cell_fits, rewritten, newly_written, written}
use Rattle.looper_rules.specs.Saves.{pinned}
use Rattle.loop_tape.specs.Pools.{PoolOf}
use Rattle.loop_tape.specs.Tapes.{TapeOf, at, IsWhole, Pushed, IsSet}
use Rattle.lazy_fill.specs.Fills.{FillOf, fill_written}
use Rattle.lazy_fill.specs.Streaks.{more_seams}
use Rattle.undo_stack.specs.Layered.{LayersOf}
use Rattle.layer_memory.specs.Kept.{StackBelow, GoesOn, PinWithin, Alone}
use Rattle.layer_memory.specs.Seen.{Held, seen, reach}
use Rattle.layer_memory.specs.Answers.{Keeps, Writes, Refuses}
use Rattle.layer_memory.specs.Inside.{open_layer, pin_of, held_by, MayBeOpen, Holds}
use Rattle.layer_memory.specs.declared.layers.Top.{Top}
use Rattle.layer_memory.proofs.SeenLemmas.{newly-mapped, stack-agrees, fresh-mapped, fits-mapped}
use Rattle.layer_memory.proofs.AlikeLemmas.{stack-rewritten}
use Rattle.layer_memory.proofs.FreshLemmas.{marked-written}

trans : {A : Type 0} {x y z : A} → x ≡ y → y ≡ z → x ≡ z
trans e f = rw e f

written-new : {A : Type 0} (how : How) (place : ℕ) (a : A) (s : Stack A) →
    meets_fresh how place s ≡ false → newly_written how place a s ≡ written how place a s
written-new how place a s m = rw m refl

written-over : {A : Type 0} (how : How) (place : ℕ) (a : A) (s : Stack A) →
    meets_fresh how place s ≡ true → rewritten how place a s ≡ written how place a s
written-over how place a s m = rw m refl

-- a new cell
pub pushed-seen : (h h' : Held) (p p' : PoolOf) (how : How) (place : ℕ) (x : Sound) →
    h'.stack ≡ newly_written how place h.tape.len h.stack → meets_fresh how place h.stack ≡ false →
    StackBelow h.tape.len h.stack → Pushed h.tape h'.tape p p' x →
    seen h' p' ≡ written how place x (seen h p)
pushed-seen h h' p p' how place x e m b c =
    let f : ℕ → Sound = at h'.tape p' in
    let agree = stack-agrees f (at h.tape p) h.tape.len h.stack c.kept b in
    let fresh = fresh-mapped (at h.tape p) how place h.stack in
    let stale : meets_fresh how place (stack_map (at h.tape p) h.stack) ≡ false = trans fresh m in
    trans (ap (λ s. stack_map f s) e)
    (trans (newly-mapped f how place h.tape.len h.stack)
    (trans (ap (λ y. newly_written how place y (stack_map f h.stack)) c.last)
    (trans (ap (λ s. newly_written how place x s) agree)
    (written-new how place x (stack_map (at h.tape p) h.stack) stale))))

-- a frame more keeps the tape's own
pub push-keeps : (h h' : Held) (p p' : PoolOf) (x : Sound) → IsWhole h'.tape →
    Pushed h.tape h'.tape p p' x → Keeps h h' p p'
push-keeps h h' p p' x whole c =
    record { owns = c.owned; whole = whole; others = c.others; reached = c.chunks; all = c.all }

-- a new cell written
pub pushes : (h h' : Held) (p p' : PoolOf) (how : How) (place : ℕ) (x : Sound) →
    h'.stack ≡ newly_written how place h.tape.len h.stack → h'.writing ≡ true →
    meets_fresh how place h.stack ≡ false → new_cell_fits (reach h p) how h.stack ≡ true →
    StackBelow h.tape.len h.stack → IsWhole h'.tape → Pushed h.tape h'.tape p p' x →
    Writes how place x h h' p p'
pushes h h' p p' how place x e w m fit b whole c = record {
  fits = rw (fits-mapped (at h.tape p) (reach h p) how place h.stack, m, fit) refl;
  seen = pushed-seen h h' p p' how place x e m b c;
  writing = w;
  keeps = push-keeps h h' p p' x whole c;
}

-- a write that does not fit
pub refuses : (h h' : Held) (p p' : PoolOf) (how : How) (place : ℕ) → h' ≡ h → p' ≡ p →
    meets_fresh how place h.stack ≡ false → new_cell_fits (reach h p) how h.stack ≡ false →
    Refuses how place h h' p p'
refuses h h' p p' how place eh ep m fit = record {
  full = rw (fits-mapped (at h.tape p) (reach h p) how place h.stack, m, fit) refl;
  same = record { held = eh; pool = ep };
}

-- over a fresh cell
pub rewrites : (h h' : Held) (p p' : PoolOf) (how : How) (place a : ℕ) (x : Sound) →
    h'.stack ≡ streak_broken h.stack → h'.tape ≡ h.tape → h'.writing ≡ true →
    overwrites how ≡ true →
    meets_fresh how place h.stack ≡ true → StackBelow h.tape.len h.stack → Alone place a h.stack →
    ((b : ℕ) → b < h.tape.len → b ≢ a → at h'.tape p' b ≡ at h.tape p b) → at h'.tape p' a ≡ x →
    Keeps h h' p p' → Writes how place x h h' p p'
rewrites h h' p p' how place a x e et w o m bl al off on k = record {
  fits = rw (fits-mapped (at h.tape p) (reach h p) how place h.stack, m) refl;
  seen = let s = stack-rewritten (at h'.tape p') (at h.tape p) how h.tape.len place a x
      h.stack.layers h.stack refl o off on bl.layers bl.redo bl.pin al.layers al.redo al.pin in
      let fresh = trans (fresh-mapped (at h.tape p) how place h.stack) m in
      trans (ap (λ t. stack_map (at h'.tape p') t) e)
      (trans s (written-over how place x (stack_map (at h.tape p) h.stack) fresh));
  writing = w;
  keeps = k;
}

-- a pin within fewer frames is within more
pub pin-more : (m n : ℕ) (p : Option (Pin ℕ)) → m ≤ n → PinWithin m p → PinWithin n p
pin-more m n None le w = tt
pin-more m n (Some p) le w = (omega (arith, le, w.0), w.1)

goes-more : (m n end : ℕ) (ls : List (Layer ℕ)) → m ≤ n → GoesOn m end ls → GoesOn n end ls
goes-more m n end [] le g = omega (arith, le, g)
goes-more m n end (l ∷ ls) le g = (g.0, (g.1.0, goes-more m n l.end ls le g.1.1))

-- what is kept where a new cell was written
pub held-pushed : (tape : ℕ) (closed : LayersOf) (d : FillOf) (t : Top) (pin : Option ℕ)
    (pinned : List ℕ) (how : How) (place seams seams' : ℕ) →
    Holds tape closed d (Some t) pin pinned seams →
    total_seams closed.layers + (d.seams + more_seams d.streak) ≤ max_seams →
    seams' ≡ seams + more_seams d.streak →
    Holds (tape + 1) closed (fill_written how place d) (Some t) pin pinned seams'
held-pushed tape closed d t pin pinned how place seams seams' h few es = record {
  ordered = h.ordered;
  goes_on = goes-more tape (tape + 1) (current_end closed.layers) closed.redo (omega arith)
      h.goes_on;
  pin_within = pin-more tape (tape + 1) (pin_of pin pinned) (omega arith) h.pin_within;
  opened = record {
    next = let n = h.opened.next in omega (arith, n);
    no_redo = h.opened.no_redo;
    end = h.opened.end;
    floor = h.opened.floor;
    pin_within = h.opened.pin_within;
    count = h.opened.count;
    few = few;
  };
  total = let s = sum_by-cons seams_of (open_layer t (fill_written how place d) closed.layers)
      closed.layers in let r = sum_by-cons seams_of (open_layer t d closed.layers) closed.layers in
      omega (arith, s, r, es, h.total);
}

-- the stack after it
pub stack-pushed : (tape tape' : TapeOf) (closed : LayersOf) (d d' : FillOf) (top : Option Top)
    (pin : Option ℕ) (pinned : List ℕ) (how : How) (place : ℕ) → IsTrue (is_some top) →
    d.floor ≤ d.next → MayBeOpen tape.len closed d top pin pinned → tape'.len ≡ tape.len + 1 →
    d' ≡ fill_written how place d → (held_by tape' closed d' top pin pinned).stack ≡ newly_written
    how place tape.len (held_by tape closed d top pin pinned).stack
stack-pushed tape tape' closed d d' None pin pinned how place w le m n e = grind (arith, w)
stack-pushed tape tape' closed d d' (Some t) pin pinned how place w le m n e =
    rw (n, sym m.next, e, marked-written d.floor how place d.next d.cells le) refl

-- what always holds, with a new cell
pub held-pushed-in : (tape : ℕ) (closed : LayersOf) (d d' : FillOf) (top : Option Top)
    (pin : Option ℕ) (pinned : List ℕ) (how : How) (place seams seams' n : ℕ) →
    IsTrue (is_some top) → Holds tape closed d top pin pinned seams →
    total_seams closed.layers + (d.seams + more_seams d.streak) ≤ max_seams →
    seams' ≡ seams + more_seams d.streak → n ≡ tape + 1 → d' ≡ fill_written how place d →
    Holds n closed d' top pin pinned seams'
held-pushed-in tape closed d d' None pin pinned how place seams seams' n w h few es en ed =
    grind (arith, w)
held-pushed-in tape closed d d' (Some t) pin pinned how place seams seams' n w h few es en ed =
    rw (en, ed) (held-pushed tape closed d t pin pinned how place seams seams' h few es)

pub ruleset writes = (held-pushed-in, stack-pushed)

pub ruleset answers = (pushes, refuses, rewrites)
