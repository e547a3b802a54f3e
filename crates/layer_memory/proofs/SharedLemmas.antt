-- What layers that share a tape keep, in public.
use Rattle.std.proofs.Common.{◌≡◌, ℕ, true, List, [], ◌∷◌, Option, Some, None, refl, sym, arith, get_or}
use Rattle.std.specs.List.{AllByRecursion}
use Rattle.std.specs.Prelude.{nat_le}
use Rattle.looper_rules.specs.Layers.{Layer}
use Rattle.looper_rules.specs.Saves.{pinned}
use Rattle.looper_rules.specs.States.{AreOrdered}
use Rattle.loop_tape.specs.Tapes.{TapeOf, IsWhole}
use Rattle.lazy_fill.specs.Fills.{FillOf, IsFill}
use Rattle.undo_stack.specs.Layered.{LayersOf, IsPieced}
use Rattle.layer_memory.specs.Kept.{Ordered}
use Rattle.layer_memory.specs.Inside.{open_layer, held_by, Holds}
use Rattle.layer_memory.specs.declared.layers.Top.{Top}
use Rattle.layer_memory.specs.Sharing.{IsShared}
use Rattle.layer_memory.proofs.KeptLemmas.{holds-low, contents-marked}
use Rattle.layer_memory.proofs.FreshLemmas.{alone-in, stale-in, place-in}

ordered-ends : (ls : List (Layer ℕ)) → Ordered ls → AreOrdered ls
ordered-ends [] o = tt
ordered-ends (l ∷ ls) o = (o.0, ordered-ends ls o.1.1)

open-pieced : (t : Top) (d : FillOf) (closed : List (Layer ℕ)) → IsFill d →
    IsPieced (open_layer t d closed)
open-pieced t d closed i = record {
  pieces = d.pieces;
  solid = i.solid;
  same =
      rw (contents-marked d.floor d.cells) (sym i.cells);
  few = i.few;
}

-- what layers that share a tape always keep
pub shared : (tape : TapeOf) (closed : LayersOf) (d : FillOf) (top : Option Top) (pin : Option ℕ)
    (pinned : List ℕ) (seams : ℕ) → IsWhole tape → Holds tape.len closed d top pin pinned seams →
    IsFill d → AllByRecursion IsPieced closed.layers → AllByRecursion IsPieced closed.redo →
    IsShared (held_by tape closed d top pin pinned)
shared tape closed d None pin pinned seams whole h i pl pr = record {
  tape = refl;
  whole = whole;
  low = holds-low tape closed d None pin pinned seams h i;
  order = ordered-ends closed.layers h.ordered;
  closed = h.ordered;
  redo = h.goes_on;
  pin = h.pin_within;
  alone = λ w. grind (arith, w);
  pieces = pl;
  redo_pieces = pr;
}
shared tape closed d (Some t) pin pinned seams whole h i pl pr = record {
  tape = refl;
  whole = whole;
  low = holds-low tape closed d (Some t) pin pinned seams h i;
  order = (h.opened.end, ordered-ends closed.layers h.ordered);
  closed = h.ordered;
  redo = rw h.opened.no_redo (let x = h.opened.floor in let y = i.floor in let z = h.opened.next in
      omega (arith, x, y, z));
  pin = h.pin_within;
  alone = λ w place lt f.
      let p = place-in (Some t) d closed.layers place w lt in
      let s = stale-in (Some t) d closed.layers place w p in
      let g : nat_le d.floor (get_or d.cells place 0) ≡ true = rw s at f in
      rw (contents-marked d.floor d.cells)
      (alone-in tape closed d (Some t) pin pinned seams place (get_or d.cells place 0) w h i p
      refl (grind (arith, g)));
  pieces = (open-pieced t d closed.layers i, pl);
  redo_pieces = pr;
}
