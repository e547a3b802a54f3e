-- What is read of the current list.
use Rattle.std.proofs.Common.{◌≡◌, ◌<◌, ℕ, List, [], ◌∷◌, map, length, take, drop, Option, Some, None, refl, sym, ap, arith, suc, zero, get_or, is_some, if◌then◌else◌}
use Rattle.std.proofs.lemmas.List.{length-map}
use Rattle.std.specs.List.{AllByRecursion}
use Rattle.sl_base.specs.Sounds.{silence}
use Rattle.looper_rules.specs.Layers.{Layer, current_cells, current_list, current_length}
use Rattle.looper_rules.specs.Stack.{Stack}
use Rattle.loop_tape.specs.Pools.{PoolOf}
use Rattle.loop_tape.specs.Tapes.{at}
use Rattle.lazy_fill.specs.Fills.{FillOf}
use Rattle.lazy_fill.specs.Addresses.{Below}
use Rattle.layer_memory.specs.Kept.{LayerBelow, StackBelow}
use Rattle.layer_memory.specs.Seen.{Held, seen}
use Rattle.lazy_fill.specs.Marks.{marked_cell}
use Rattle.layer_memory.specs.Inside.{stacked}
use Rattle.layer_memory.specs.declared.layers.Top.{Top}
use Rattle.layer_memory.proofs.SeenLemmas.{list-mapped}
use Rattle.layer_memory.proofs.KeptLemmas.{contents-marked}
use Rattle.layer_memory.proofs.ClosingLemmas.{length-contents}
use Rattle.pieces.proofs.AddressLemmas.{length-addresses}

-- reading
pub get-mapped : {A B : Type 0} (f : A → B) (xs : List A) (k : ℕ) (a : A) (b : B) → k < length xs →
    get_or (map f xs) k b ≡ f (get_or xs k a)
get-mapped f [] k a b lt = grind arith
get-mapped f (x ∷ xs) zero a b lt = refl
get-mapped f (x ∷ xs) (suc k) a b lt = get-mapped f xs k a b (omega (arith, lt))

-- each address of a list below a number is below it
pub below-at : (n k : ℕ) (xs : List ℕ) → k < length xs → Below n xs → get_or xs k 0 < n
below-at n k [] lt b = grind arith
below-at n zero (x ∷ xs) lt b = b.0
below-at n (suc k) (x ∷ xs) lt b = below-at n k xs (omega (arith, lt)) b.1

-- the current list of layers below a number is below it
pub current-below : (n : ℕ) (ls : List (Layer ℕ)) → AllByRecursion (LayerBelow n) ls →
    Below n (current_list ls)
current-below n [] b = tt
current-below n (l ∷ ls) b = b.0.0

-- the length of the current list
pub length-list : {A : Type 0} (ls : List (Layer A)) → length (current_list ls) ≡ current_length ls
length-list ls = length-contents (current_cells ls)

-- each of its addresses is below the tape length
pub read-below : (n place : ℕ) (s : Stack ℕ) → StackBelow n s → place < current_length s.layers →
    get_or (current_list s.layers) place 0 < n
read-below n place s b lt = let h = length-list s.layers in below-at n place (current_list s.layers)
    (omega (arith, h, lt)) (current-below n s.layers b.layers)

-- a frame of it, with the pool
pub read-seen : (h : Held) (p : PoolOf) (place : ℕ) → place < current_length h.stack.layers →
    get_or (current_list (seen h p).layers) place silence ≡ at h.tape p
    (get_or (current_list h.stack.layers) place 0)
read-seen h p place lt = let e = length-list h.stack.layers in
    rw (list-mapped (at h.tape p) h.stack.layers)
    (get-mapped (at h.tape p) (current_list h.stack.layers) place 0 silence (omega (arith, e, lt)))

-- the current list, by whether a layer is open
pub current-stacked : (top : Option Top) (d : FillOf) (closed : List (Layer ℕ)) →
    current_list (stacked top d closed) ≡ (if is_some top then d.cells else current_list closed)
current-stacked None d closed = refl
current-stacked (Some t) d closed = contents-marked d.floor d.cells

-- and its length
pub length-stacked : (top : Option Top) (d : FillOf) (closed : List (Layer ℕ)) →
    current_length (stacked top d closed) ≡ (if is_some top then length d.cells else
    length (current_list closed))
length-stacked None d closed = sym (length-list closed)
length-stacked (Some t) d closed = length-map d.cells (marked_cell d.floor)

-- the first of a list, mapped
pub take-mapped : {A B : Type 0} (g : A → B) (k : ℕ) (xs : List A) →
    map g (take k xs) ≡ take k (map g xs)
take-mapped g zero xs = refl
take-mapped g (suc k) [] = refl
take-mapped g (suc k) (x ∷ xs) = ap (λ t. g x ∷ t) (take-mapped g k xs)

-- the rest of a list, mapped
pub drop-mapped : {A B : Type 0} (g : A → B) (k : ℕ) (xs : List A) →
    map g (drop k xs) ≡ drop k (map g xs)
drop-mapped g zero xs = refl
drop-mapped g (suc k) [] = refl
drop-mapped g (suc k) (x ∷ xs) = drop-mapped g k xs

-- a span of a list is a span of its frames
pub span-mapped : {A B : Type 0} (g : A → B) (n place : ℕ) (xs : List A) →
    map g (take n (drop place xs)) ≡ take n (drop place (map g xs))
span-mapped g n place xs = rw (take-mapped g n (drop place xs), drop-mapped g place xs) refl

-- the frames from a place of the current list on
pub span-seen : (h : Held) (p : PoolOf) (n place : ℕ) →
    take n (drop place (current_list (seen h p).layers)) ≡ map (at h.tape p)
    (take n (drop place (current_list h.stack.layers)))
span-seen h p n place = rw (list-mapped (at h.tape p) h.stack.layers)
    (sym (span-mapped (at h.tape p) n place (current_list h.stack.layers)))

pub ruleset reads = (length-addresses, read-below, read-seen, current-stacked, length-stacked)

pub ruleset spans = (length-addresses, current-below, span-seen, current-stacked, length-stacked)
