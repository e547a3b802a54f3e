-- What a pin holds, and what is read of it.
use Rattle.std.proofs.Common.{◌≡◌, ◌≤◌, ◌<◌, ℕ, ◌+◌, List, [], ◌∷◌, map, length, take, drop, Option, Some, None, refl, sym, ap, arith, get_or, IsTrue, IsFalse, is_some}
use Rattle.sl_base.specs.Sounds.{Sound, silence}
use Rattle.looper_rules.specs.Layers.{Cell, Layer, unmarked, current_end, current_list, with_current}
use Rattle.looper_rules.specs.Stack.{Stack, Pin, pinned_list}
use Rattle.looper_rules.specs.Mapping.{pin_map}
use Rattle.looper_rules.specs.Saves.{pinned, unmarked_layer}
use Rattle.loop_tape.specs.Pools.{PoolOf}
use Rattle.loop_tape.specs.Tapes.{TapeOf, at}
use Rattle.lazy_fill.specs.Fills.{FillOf, IsFill, fill_frozen}
use Rattle.lazy_fill.specs.Addresses.{Below}
use Rattle.undo_stack.specs.Layered.{LayersOf}
use Rattle.layer_memory.specs.Kept.{PinBelow, StackBelow, Ordered}
use Rattle.layer_memory.specs.Seen.{Held, seen}
use Rattle.lazy_fill.specs.Marks.{marked}
use Rattle.layer_memory.specs.Inside.{pin_of, held_by, Holds}
use Rattle.layer_memory.specs.declared.layers.Top.{Top}
use Rattle.layer_memory.proofs.SeenLemmas.{pinned-mapped, unpinned-mapped, pinned_list-mapped}
use Rattle.layer_memory.proofs.KeptLemmas.{contents-marked, end-within, current-total, list-below, marked-below}
use Rattle.layer_memory.proofs.ReadLemmas.{get-mapped, below-at, span-mapped}

-- the pinned list is below where its pin is
pub pinned-below : (n : ℕ) (p : Option (Pin ℕ)) → PinBelow n p → Below n (pinned_list p)
pinned-below n None b = tt
pinned-below n (Some p) b = b

-- each of its addresses is
pub saved-below : (n place : ℕ) (s : Stack ℕ) → StackBelow n s →
    place < length (pinned_list s.pin) → get_or (pinned_list s.pin) place 0 < n
saved-below n place s b lt = below-at n place (pinned_list s.pin) lt (pinned-below n s.pin b.pin)

saved-mapped : {A B : Type 0} (f : A → B) (p : Option (Pin A)) (place : ℕ) (a : A) (b : B) →
    place < length (pinned_list p) →
    get_or (pinned_list (pin_map f p)) place b ≡ f (get_or (pinned_list p) place a)
saved-mapped f None place a b lt = grind arith
saved-mapped f (Some p) place a b lt = get-mapped f p.list place a b lt

-- a frame of it, with the pool
pub saved-seen : (h : Held) (p : PoolOf) (place : ℕ) → place < length (pinned_list h.stack.pin) →
    get_or (pinned_list (seen h p).pin) place silence ≡ at h.tape p
    (get_or (pinned_list h.stack.pin) place 0)
saved-seen h p place lt = saved-mapped (at h.tape p) h.stack.pin place 0 silence lt

unmarked-same : (l : Layer ℕ) → l.cells ≡ unmarked l.cells → unmarked_layer l ≡ l
unmarked-same l e = ap (λ (cs : List (Cell ℕ)). record l { cells = cs }) (sym e)

current-unmarked : (ls : List (Layer ℕ)) → Ordered ls → with_current unmarked_layer ls ≡ ls
current-unmarked [] o = refl
current-unmarked (l ∷ ls) o = ap (λ (x : Layer ℕ). x ∷ ls) (unmarked-same l o.1.0.not_fresh)

-- a pin on closed layers is the rules' pin
pub stack-pinned-closed : (tape : TapeOf) (closed : LayersOf) (d : FillOf) (top : Option Top)
    (pin : Option ℕ) (pinned_before xs : List ℕ) (n : ℕ) → IsFalse (is_some top) →
    Ordered closed.layers → xs ≡ current_list closed.layers → n ≡ tape.len →
    (held_by tape closed d top (Some n) xs).stack ≡ pinned
    (held_by tape closed d top pin pinned_before).stack
stack-pinned-closed tape closed d (Some t) pin pinned_before xs n w o ex en = grind (arith, w)
stack-pinned-closed tape closed d None pin pinned_before xs n w o ex en =
    rw (ex, en, current-unmarked closed.layers o) refl

-- what always holds, with that pin
pub held-pinned-closed : (tape n : ℕ) (closed : LayersOf) (d : FillOf) (top : Option Top)
    (pin : Option ℕ) (pinned_before xs : List ℕ) (seams : ℕ) → IsFalse (is_some top) →
    Holds tape closed d top pin pinned_before seams → xs ≡ current_list closed.layers → n ≡ tape →
    Holds tape closed d top (Some n) xs seams
held-pinned-closed tape n closed d (Some t) pin pinned_before xs seams w h ex en = grind (arith, w)
held-pinned-closed tape n closed d None pin pinned_before xs seams w h ex en = record {
  ordered = h.ordered;
  goes_on = h.goes_on;
  pin_within = rw (ex, en) (
    omega arith,
    list-below tape closed.layers
        (end-within tape (current_end closed.layers) closed.redo h.goes_on) h.ordered,
  );
  opened = tt;
  total = h.total;
}

marks-cleared : (floor : ℕ) (xs : List ℕ) (next : ℕ) → Below next xs →
    marked next xs ≡ unmarked (marked floor xs)
marks-cleared floor xs next b = rw (contents-marked floor xs, marked-below next xs b) refl

-- a pin on an open layer is the rules' pin
pub stack-pinned-open : (tape : TapeOf) (closed : LayersOf) (d d' : FillOf) (top : Option Top)
    (pin : Option ℕ) (pinned_before xs : List ℕ) (n : ℕ) → IsTrue (is_some top) →
    Below d.next d.cells → d' ≡ fill_frozen d → xs ≡ d.cells → n ≡ tape.len →
    (held_by tape closed d' top (Some n) xs).stack ≡ pinned
    (held_by tape closed d top pin pinned_before).stack
stack-pinned-open tape closed d d' None pin pinned_before xs n w b ed ex en = grind (arith, w)
stack-pinned-open tape closed d d' (Some t) pin pinned_before xs n w b ed ex en =
    rw (ed, ex, en, marks-cleared d.floor d.cells d.next b, contents-marked d.floor d.cells) refl

-- what always holds, with that pin
pub held-pinned-open : (tape n : ℕ) (closed : LayersOf) (d d' : FillOf) (top : Option Top)
    (pin : Option ℕ) (pinned_before xs : List ℕ) (seams : ℕ) → IsTrue (is_some top) → IsFill d →
    Holds tape closed d top pin pinned_before seams → d' ≡ fill_frozen d → xs ≡ d.cells → n ≡ tape →
    Holds tape closed d' top (Some n) xs seams
held-pinned-open tape n closed d d' None pin pinned_before xs seams w i h ed ex en =
    grind (arith, w)
held-pinned-open tape n closed d d' (Some t) pin pinned_before xs seams w i h ed ex en =
    let next = h.opened.next in
    let low : Below tape d.cells = rw (sym next) i.below in
    rw (ed, ex, en) (record {
      ordered = h.ordered;
      goes_on = h.goes_on;
      pin_within = (omega arith, low);
      opened = record {
        next = next;
        no_redo = h.opened.no_redo;
        end = h.opened.end;
        floor = let x = h.opened.floor in let y = i.floor in omega (arith, x, y);
        pin_within = (omega (arith, next), low);
        count = h.opened.count;
        few = h.opened.few;
      };
      total = h.total;
    })

-- the frames from a place of the pinned list on
pub saved-span-seen : (h : Held) (p : PoolOf) (n place : ℕ) →
    take n (drop place (pinned_list (seen h p).pin)) ≡ map (at h.tape p)
    (take n (drop place (pinned_list h.stack.pin)))
saved-span-seen h p n place = rw (pinned_list-mapped (at h.tape p) h.stack.pin)
    (sym (span-mapped (at h.tape p) n place (pinned_list h.stack.pin)))

-- the pinned list is below the tape length, where something of it is read
pub saved-low : (n : ℕ) (pin : Option ℕ) (list : List ℕ) (place k : ℕ) → 0 < k →
    place + k ≤ length (pinned_list (pin_of pin list)) → PinBelow n (pin_of pin list) → Below n list
saved-low n None list place k some le b = absurd (omega (arith, some, le))
saved-low n (Some t) list place k some le b = b

-- nothing is read into nothing
pub nothing-read : (out xs : List Sound) → length out ≡ 0 → out ≡ take (length out) xs
nothing-read [] xs e = refl
nothing-read (x ∷ out) xs e = absurd (omega (arith, e))

pub ruleset pins =
    (held-pinned-closed, held-pinned-open, stack-pinned-closed, stack-pinned-open, current-total)

pub ruleset ends = (pinned-mapped, unpinned-mapped)

pub ruleset reads = (saved-below, saved-seen)

pub ruleset spans = (saved-span-seen, nothing-read)
