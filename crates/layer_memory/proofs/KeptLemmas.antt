-- What layers that share a tape keep.
use Rattle.std.proofs.Common.{◌≡◌, ◌≤◌, ℕ, Bool, true, false, List, [], ◌∷◌, Option, Some, None, refl, sym, ap, arith}
use Rattle.std.proofs.lemmas.List.Sums.{sum_by-cons}
use Rattle.std.specs.List.{AllByRecursion}
use Rattle.std.specs.Prelude.{nat_le}
use Rattle.looper_rules.specs.Layers.{Layer, contents, old_cells, total_seams, current_end, current_seams, seams_of, current_list}
use Rattle.looper_rules.specs.Stack.{Pin}
use Rattle.looper_rules.specs.Saves.{pinned}
use Rattle.loop_tape.specs.Tapes.{TapeOf}
use Rattle.lazy_fill.specs.Fills.{FillOf, IsFill}
use Rattle.lazy_fill.specs.Addresses.{Below}
use Rattle.undo_stack.specs.Layered.{LayersOf}
use Rattle.layer_memory.specs.Kept.{LayerBelow, PinBelow, StackBelow, IsLow, Ordered, GoesOn, PinWithin}
use Rattle.lazy_fill.specs.Marks.{marked}
use Rattle.layer_memory.specs.Inside.{base_on, stacked, pin_of, held_by, MayBeOpen, Holds}
use Rattle.layer_memory.specs.declared.layers.Top.{Top}

-- a greater bound
pub below-more : (m n : ℕ) (xs : List ℕ) → m ≤ n → Below m xs → Below n xs
below-more m n [] le b = tt
below-more m n (x ∷ xs) le b = (omega (arith, le, b.0), below-more m n xs le b.1)

-- the end from which redo layers go on is on the tape
pub end-within : (tape end : ℕ) (redo : List (Layer ℕ)) → GoesOn tape end redo → end ≤ tape
end-within tape end [] g = g
end-within tape end (l ∷ ls) g = let h = end-within tape l.end ls g.1.1 in omega (arith, h, g.0)

-- the current seams are some of all
pub current-total : (ls : List (Layer ℕ)) → current_seams ls ≤ total_seams ls
current-total [] = omega arith
current-total (l ∷ ls) = let h = sum_by-cons seams_of l ls in omega (arith, h)

-- all addresses of closed layers are below the tape's end
no-base-below : (n : ℕ) (xs : List ℕ) → xs ≡ [] → Below n xs
no-base-below n xs e = rw e tt

low-below : (n : ℕ) (l : Layer ℕ) → l.end ≤ n → IsLow l → LayerBelow n l
low-below n l le w =
    (below-more l.end n (contents l.cells) le w.below, no-base-below n l.base w.no_base)

-- layers in order are below a number that the current one is below
pub ordered-below : (n : ℕ) (ls : List (Layer ℕ)) → current_end ls ≤ n → Ordered ls →
    AllByRecursion (LayerBelow n) ls
ordered-below n [] le o = tt
ordered-below n (l ∷ ls) le o =
    (low-below n l le o.1.0, ordered-below n ls (omega (arith, le, o.0)) o.1.1)

-- so are redo layers
pub redo-below : (n end : ℕ) (ls : List (Layer ℕ)) → GoesOn n end ls →
    AllByRecursion (LayerBelow n) ls
redo-below n end [] g = tt
redo-below n end (l ∷ ls) g =
    (low-below n l (end-within n l.end ls g.1.1) g.1.0, redo-below n l.end ls g.1.1)

-- and so is the pin
pub pin-below : (n : ℕ) (p : Option (Pin ℕ)) → PinWithin n p → PinBelow n p
pin-below n None w = tt
pin-below n (Some p) w = below-more p.tape n p.list w.0 w.1

-- marks leave the addresses
pub contents-marked : (floor : ℕ) (xs : List ℕ) → contents (marked floor xs) ≡ xs
contents-marked floor [] = refl
contents-marked floor (x ∷ xs) = ap (λ t. x ∷ t) (contents-marked floor xs)

-- the current list is below where its end is
pub list-below : (n : ℕ) (ls : List (Layer ℕ)) → current_end ls ≤ n → Ordered ls →
    Below n (current_list ls)
list-below n [] le o = tt
list-below n (l ∷ ls) le o = below-more l.end n (contents l.cells) le o.1.0.below

-- so is the base
pub base-below : (n : ℕ) (over : Bool) (ls : List (Layer ℕ)) → current_end ls ≤ n → Ordered ls →
    Below n (base_on over ls)
base-below n true ls le o = list-below n ls le o
base-below n false ls le o = tt

stacked-below : (tape : ℕ) (closed : LayersOf) (d : FillOf) (top : Option Top) (pin : Option ℕ)
    (pinned : List ℕ) → IsFill d → Ordered closed.layers → current_end closed.layers ≤ tape →
    MayBeOpen tape closed d top pin pinned →
    AllByRecursion (LayerBelow tape) (stacked top d closed.layers)
stacked-below tape closed d None pin pinned i o le m = ordered-below tape closed.layers le o
stacked-below tape closed d (Some t) pin pinned i o le m = (
  (
    rw (contents-marked d.floor d.cells, sym m.next) i.below,
    base-below tape t.over closed.layers le o,
  ),
  ordered-below tape closed.layers le o,
)

-- all addresses are below the tape length
pub holds-low : (tape : TapeOf) (closed : LayersOf) (d : FillOf) (top : Option Top) (pin : Option ℕ)
    (pinned : List ℕ) (seams : ℕ) → Holds tape.len closed d top pin pinned seams → IsFill d →
    StackBelow tape.len (held_by tape closed d top pin pinned).stack
holds-low tape closed d top pin pinned seams h i =
    let le = end-within tape.len (current_end closed.layers) closed.redo h.goes_on in
    record {
      layers = stacked-below tape.len closed d top pin pinned i h.ordered le h.opened;
      redo = redo-below tape.len (current_end closed.layers) closed.redo h.goes_on;
      pin = pin-below tape.len (pin_of pin pinned) h.pin_within;
    }

-- below the floor no cell is fresh
pub marked-below : (floor : ℕ) (xs : List ℕ) → Below floor xs → marked floor xs ≡ old_cells xs
marked-below floor [] b = refl
marked-below floor (x ∷ xs) b = let e : nat_le floor x ≡ false = grind (arith, b.0) in
    rw (e, marked-below floor xs b.1) refl

-- the end of the current layer is at most the tape length, also of an open one
pub stacked-end : (tape : ℕ) (closed : LayersOf) (d : FillOf) (t : Top) (pin : Option ℕ)
    (pinned : List ℕ) → IsFill d → MayBeOpen tape closed d (Some t) pin pinned → t.end ≤ tape
stacked-end tape closed d t pin pinned i m = let x = m.floor in let y = i.floor in let z = m.next in
    omega (arith, x, y, z)

pub ruleset steps = (end-within, current-total, stacked-end)
