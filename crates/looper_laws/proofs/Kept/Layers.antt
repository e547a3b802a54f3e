-- What holds of some layers holds of the layers with one more, one less, or the current one
-- changed.
use Rattle.std.proofs.Common.{◌≡◌, ℕ, ◌+◌, ◌≤◌, List, [], ◌∷◌, length, refl, sym, ap, ◌∙◌, arith}
use Rattle.std.proofs.lemmas.List.{length-map}
use Rattle.std.proofs.lemmas.List.Sums.{sum_by-cons}
use Rattle.looper_rules.specs.Layers.{Cell, Layer, content_of, old_cell, contents, old_cells, unmarked, seams_of, total_seams, with_current, current_length, current_end}
use Rattle.looper_rules.specs.Room.{chunks_of}
use Rattle.looper_rules.specs.States.{AreClosed, AreWithin, AreOrdered}

-- the cells of a list have the list
pub contents-old_cells : {A : Type 0} (list : List A) → contents (old_cells list) ≡ list
contents-old_cells [] = refl
contents-old_cells (x ∷ xs) = ap (λ r. x ∷ r) (contents-old_cells xs)

-- cells keep their number without their marks
pub length-unmarked : {A : Type 0} (cells : List (Cell A)) → length (unmarked cells) ≡ length cells
length-unmarked cells = length-map (contents cells) old_cell ∙ length-map cells content_of

-- marks that are cleared are cleared
pub unmarked-unmarked : {A : Type 0} (cells : List (Cell A)) →
    unmarked cells ≡ unmarked (unmarked cells)
unmarked-unmarked cells = ap old_cells (sym (contents-old_cells (contents cells)))

-- one layer more has its seams more
pub total_seams-cons : {A : Type 0} (l : Layer A) (ls : List (Layer A)) →
    total_seams (l ∷ ls) ≡ l.seams + total_seams ls
total_seams-cons l ls = sum_by-cons seams_of l ls

-- a shorter tape takes no more chunks
pub chunks_of_le : (less more : ℕ) → less ≤ more → chunks_of less ≤ chunks_of more
chunks_of_le less more h = omega arith

-- the current end lies within the tape
pub current_end_within : {A : Type 0} (tape : ℕ) (layers : List (Layer A)) → AreWithin tape layers →
    current_end layers ≤ tape
current_end_within tape [] within = omega arith
current_end_within tape (l ∷ ls) within = within.0.1

-- layers that are in order lie within any tape that the current one lies in
pub ordered_within :
    {A : Type 0} (less tape : ℕ) (layers : List (Layer A)) → AreOrdered layers →
    current_end layers ≤ less →
    AreWithin tape layers → AreWithin less layers
ordered_within less tape [] order below within = tt
ordered_within less tape (l ∷ ls) order below within =
    let below_it : current_end ls ≤ less =
    (let under : current_end ls ≤ l.end = order.0 in omega arith)
    in ((within.0.0, below), ordered_within less tape ls order.1 below_it within.1)

-- the current layer changed leaves as many layers
pub length-with_current : {A : Type 0} (f : Layer A → Layer A) (layers : List (Layer A)) →
    length (with_current f layers) ≡ length layers
length-with_current f [] = refl
length-with_current f (l ∷ ls) = refl
