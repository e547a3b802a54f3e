-- What closing, undo and redo leave.
use Rattle.std.proofs.Common.{◌≡◌, ℕ, List, [], ◌∷◌, length, Option, Some, None, refl, sym, ap, arith, suc, zero, IsTrue, is_some}
use Rattle.std.proofs.lemmas.List.{length-map}
use Rattle.std.proofs.lemmas.List.Sums.{sum_by-cons}
use Rattle.looper_rules.specs.Layers.{Cell, contents, old_cells, current_end, seams_of}
use Rattle.looper_rules.specs.Closing.{finished, cut_cells, closing_cycle}
use Rattle.looper_rules.specs.Saves.{pinned}
use Rattle.loop_tape.specs.Tapes.{TapeOf}
use Rattle.lazy_fill.specs.Fills.{FillOf, cut_list}
use Rattle.lazy_fill.specs.Addresses.{Below}
use Rattle.undo_stack.specs.Layered.{LayersOf, closed_of}
use Rattle.lazy_fill.specs.Marks.{marked}
use Rattle.layer_memory.specs.Inside.{open_layer, held_by, MayBeOpen, Holds}
use Rattle.layer_memory.specs.declared.layers.Top.{Top}
use Rattle.layer_memory.proofs.SeenLemmas.{finished-mapped, undone-mapped, redone-mapped, contents-mapped}
use Rattle.layer_memory.proofs.KeptLemmas.{contents-marked, end-within, current-total}

-- closing
pub contents-old : (xs : List ℕ) → contents (old_cells xs) ≡ xs
contents-old [] = refl
contents-old (x ∷ xs) = ap (λ t. x ∷ t) (contents-old xs)

cut-marked : (floor : ℕ) (cut : Option ℕ) (xs : List ℕ) →
    contents (cut_cells cut (marked floor xs)) ≡ cut_list cut xs
cut-marked floor None xs = contents-marked floor xs
cut-marked floor (Some zero) xs = refl
cut-marked floor (Some (suc k)) [] = refl
cut-marked floor (Some (suc k)) (x ∷ xs) = ap (λ t. x ∷ t) (cut-marked floor (Some k) xs)

-- as many frames as cells
pub length-contents : {A : Type 0} (cs : List (Cell A)) → length (contents cs) ≡ length cs
length-contents cs = length-map cs (λ c. c.content)

length-cut : (floor : ℕ) (cut : Option ℕ) (xs : List ℕ) →
    length (cut_cells cut (marked floor xs)) ≡ length (cut_list cut xs)
length-cut floor cut xs = let a = length-contents (cut_cells cut (marked floor xs)) in
    let b = ap (λ t. length t) (cut-marked floor cut xs) in omega (arith, a, b)

-- the open layer closed is the rules' closing
pub stack-closed : (tape : TapeOf) (closed closed' : LayersOf) (d d' : FillOf) (t : Top)
    (pin : Option ℕ) (pinned : List ℕ) (cut : Option ℕ) → closed.redo ≡ [] →
    closed'.layers ≡ closed_of (cut_list cut d.cells)
    (closing_cycle t.cycle (length (cut_list cut d.cells))) tape.len d.seams ∷ closed.layers →
    closed'.redo ≡ [] → (held_by tape closed' d' None pin pinned).stack ≡ finished cut
    (held_by tape closed d (Some t) pin pinned).stack
stack-closed tape closed closed' d d' t pin pinned cut r el er =
    rw (el, er, r, cut-marked d.floor cut d.cells, length-cut d.floor cut d.cells) refl

-- what always holds, with the layer closed
pub held-closed : (tape cycle : ℕ) (xs : List ℕ) (closed closed' : LayersOf) (d d' : FillOf)
    (t : Top) (pin : Option ℕ) (pinned : List ℕ) (seams : ℕ) →
    Holds tape closed d (Some t) pin pinned seams → Below tape xs →
    closed'.layers ≡ closed_of xs cycle tape d.seams ∷ closed.layers → closed'.redo ≡ [] →
    Holds tape closed' d' None pin pinned seams
held-closed tape cycle xs closed closed' d d' t pin pinned seams h b el er = record {
  ordered = rw el (
    end-within tape (current_end closed.layers) closed.redo h.goes_on,
    (
      record {
        below = rw (contents-old xs) b;
        no_base = refl;
        not_fresh =
            rw (contents-old xs) refl;
      },
      h.ordered,
    ),
  );
  goes_on = rw (el, er) (omega arith);
  pin_within = h.pin_within;
  opened = tt;
  total = rw el (let s = sum_by-cons seams_of (open_layer t d closed.layers) closed.layers in
      let r = sum_by-cons seams_of (closed_of xs cycle tape d.seams) closed.layers in
      let e = h.total in omega (arith, s, r, e));
}

-- the same by its parts
pub held-closed-at : (tape n cycle end seams' : ℕ) (xs : List ℕ) (closed closed' : LayersOf)
    (d d' : FillOf) (top : Option Top) (pin : Option ℕ) (pinned : List ℕ) (seams : ℕ) →
    IsTrue (is_some top) → Holds tape closed d top pin pinned seams →
    closed'.layers ≡ closed_of xs cycle end seams' ∷ closed.layers → closed'.redo ≡ [] →
    end ≡ tape → seams' ≡ d.seams → n ≡ d.next → Below n xs →
    Holds tape closed' d' None pin pinned seams
held-closed-at tape n cycle end seams' xs closed closed' d d' None pin pinned seams w h el er ee ed
    en b = grind (arith, w)
held-closed-at tape n cycle end seams' xs closed closed' d d' (Some t) pin pinned seams w h el er ee
    ed en b =
    let m : n ≡ tape = let x = h.opened.next in omega (arith, en, x) in
    held-closed tape cycle xs closed closed' d d' t pin pinned seams h (rw (sym m) b)
    (rw (ee, ed) at el) er

none-some : (r : Option Top) (t : Top) → r ≡ None → r ≡ Some t → ⊥
none-some r t e f = (cc)

-- and so whether a layer was open or not
pub stack-closed-at : (tape : TapeOf) (closed closed' : LayersOf) (d d' : FillOf) (top : Option Top)
    (t : Top) (pin : Option ℕ) (pinned : List ℕ) (cut : Option ℕ) (xs : List ℕ)
    (cycle end seams' : ℕ) → top ≡ Some t → MayBeOpen tape.len closed d top pin pinned →
    closed'.layers ≡ closed_of xs cycle end seams' ∷ closed.layers → closed'.redo ≡ [] →
    xs ≡ cut_list cut d.cells → cycle ≡ closing_cycle t.cycle (length (cut_list cut d.cells)) →
    end ≡ tape.len → seams' ≡ d.seams → (held_by tape closed' d' None pin pinned).stack ≡ finished
    cut (held_by tape closed d top pin pinned).stack
stack-closed-at tape closed closed' d d' None t pin pinned cut xs cycle end seams' et m el er ex ec
    ee ed = absurd (none-some None t refl et)
stack-closed-at tape closed closed' d d' (Some u) t pin pinned cut xs cycle end seams' et m el er ex
    ec ee ed = let v : u ≡ t = cc in
    rw v (stack-closed tape closed closed' d d' t pin pinned cut m.no_redo
    (rw (ex, ec, ee, ed) at el) er)

pub ruleset closes = (held-closed-at, stack-closed-at)

pub ruleset ends = (finished-mapped, contents-marked)

pub ruleset moves = (undone-mapped, redone-mapped, current-total)
