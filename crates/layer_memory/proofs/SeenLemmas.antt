-- What is done to a stack is done to its contents.
use Rattle.std.proofs.Common.{◌≡◌, ◌<◌, ℕ, Bool, true, false, List, [], ◌∷◌, ◌++◌, map, length, take, Option, Some, None, refl, ap, arith, suc, zero, is_some, if◌then◌else◌}
use Rattle.std.proofs.lemmas.List.{length-map}
use Rattle.std.proofs.lemmas.List.Sums.{sum_by-cons}
use Rattle.std.specs.List.{AllByRecursion, insert}
use Rattle.std.specs.Prelude.{slice_set, slice_get}
use Rattle.sl_commands.specs.declared.How.{How}
use Rattle.sl_commands.specs.declared.How.TheVariants.{Forward, Backward, Insert, Append}
use Rattle.looper_rules.specs.Layers.{Cell, Layer, contents, old_cell, old_cells, unmarked, fresh_cell, is_fresh, total_seams, current_end, current_seams, current_cycle, seams_of, current_cells, current_list, current_length, current_base_length, current_base_seams, with_current}
use Rattle.looper_rules.specs.Stack.{Stack, Pin, pinned_tape, pinned_list, streak_broken}
use Rattle.looper_rules.specs.Mapping.{cell_map, layer_map, pin_map, stack_map}
use Rattle.looper_rules.specs.Opening.{opening, opened, opening_tape, new_layer}
use Rattle.looper_rules.specs.Writing.{meets_fresh, new_cell_fits, write_fits, with_cell, with_written, newly_written, extended, extended_if, with_base, extension_fits}
use Rattle.looper_rules.specs.Closing.{finished, finished_layer, cut_cells, closed_layer, dropped}
use Rattle.looper_rules.specs.History.{undone, redone}
use Rattle.looper_rules.specs.Saves.{pinned, unpinned, unmarked_layer}
use Rattle.looper_rules.specs.Run.{loaded}
use Rattle.lazy_fill.specs.Addresses.{Below}
use Rattle.layer_memory.specs.Kept.{LayerBelow, PinBelow, StackBelow}

-- contents, with other frames
pub contents-mapped : {A B : Type 0} (f : A → B) (cs : List (Cell A)) →
    contents (map (cell_map f) cs) ≡ map f (contents cs)
contents-mapped f [] = refl
contents-mapped f (c ∷ cs) = ap (λ t. f c.content ∷ t) (contents-mapped f cs)

-- cells that are not fresh
pub old-mapped : {A B : Type 0} (f : A → B) (xs : List A) →
    old_cells (map f xs) ≡ map (cell_map f) (old_cells xs)
old-mapped f [] = refl
old-mapped f (x ∷ xs) = ap (λ t. old_cell (f x) ∷ t) (old-mapped f xs)

-- all seams
pub total-mapped : {A B : Type 0} (f : A → B) (ls : List (Layer A)) →
    total_seams (map (layer_map f) ls) ≡ total_seams ls
total-mapped f [] = refl
total-mapped f (l ∷ ls) = let h = total-mapped f ls in let a = sum_by-cons seams_of (layer_map f l)
    (map (layer_map f) ls) in let b = sum_by-cons seams_of l ls in omega (arith, h, a, b)

-- the current end
pub end-mapped : {A B : Type 0} (f : A → B) (ls : List (Layer A)) →
    current_end (map (layer_map f) ls) ≡ current_end ls
end-mapped f [] = refl
end-mapped f (l ∷ ls) = refl

-- the current seams
pub seams-mapped : {A B : Type 0} (f : A → B) (ls : List (Layer A)) →
    current_seams (map (layer_map f) ls) ≡ current_seams ls
seams-mapped f [] = refl
seams-mapped f (l ∷ ls) = refl

-- how many layers there are
pub layers-mapped : {A B : Type 0} (f : A → B) (ls : List (Layer A)) →
    length (map (layer_map f) ls) ≡ length ls
layers-mapped f ls = length-map ls (layer_map f)

-- the pin's tape length
pub pin-mapped : {A B : Type 0} (f : A → B) (p : Option (Pin A)) →
    pinned_tape (pin_map f p) ≡ pinned_tape p
pin-mapped f None = refl
pin-mapped f (Some p) = refl

-- where an opening begins
pub opening_tape-mapped : {A B : Type 0} (f : A → B) (s : Stack A) →
    opening_tape (stack_map f s) ≡ opening_tape s
opening_tape-mapped f s = rw (end-mapped f s.layers, pin-mapped f s.pin) refl

-- what becomes of an opening
pub opening-mapped : {A B : Type 0} (f : A → B) (r : ℕ) (empty : Bool) (s : Stack A) →
    opening r empty (stack_map f s) ≡ opening r empty s
opening-mapped f r empty s =
    rw (
      end-mapped f s.layers,
      pin-mapped f s.pin,
      total-mapped f s.layers,
      seams-mapped f s.layers,
      layers-mapped f s.layers,
    ) refl

new-mapped : {A B : Type 0} (f : A → B) (empty : Bool) (t : ℕ) (ls : List (Layer A)) →
    layer_map f (new_layer empty t ls) ≡ new_layer empty t (map (layer_map f) ls)
new-mapped f true t ls = refl
new-mapped f false t [] = refl
new-mapped f false t (l ∷ ls) = rw (contents-mapped f l.cells, old-mapped f (contents l.cells)) refl

-- an opening
pub opened-mapped : {A B : Type 0} (f : A → B) (empty : Bool) (s : Stack A) →
    stack_map f (opened empty s) ≡ opened empty (stack_map f s)
opened-mapped f empty s =
    rw (end-mapped f s.layers, pin-mapped f s.pin, new-mapped f empty (opening_tape s) s.layers)
    refl

set-mapped : {A B : Type 0} (g : A → B) (xs : List A) (k : ℕ) (x : A) →
    map g (slice_set xs k x) ≡ slice_set (map g xs) k (g x)
set-mapped g [] k x = refl
set-mapped g (y ∷ ys) zero x = refl
set-mapped g (y ∷ ys) (suc k) x = ap (λ t. g y ∷ t) (set-mapped g ys k x)

insert-mapped : {A B : Type 0} (g : A → B) (xs : List A) (k : ℕ) (x : A) →
    map g (insert xs k x) ≡ insert (map g xs) k (g x)
insert-mapped g [] zero x = refl
insert-mapped g (y ∷ ys) zero x = refl
insert-mapped g [] (suc k) x = refl
insert-mapped g (y ∷ ys) (suc k) x = ap (λ t. g y ∷ t) (insert-mapped g ys k x)

-- two lists, one behind the other
pub append-mapped : {A B : Type 0} (g : A → B) (xs ys : List A) →
    map g (xs ++ ys) ≡ map g xs ++ map g ys
append-mapped g [] ys = refl
append-mapped g (x ∷ xs) ys = ap (λ t. g x ∷ t) (append-mapped g xs ys)

take-mapped : {A B : Type 0} (g : A → B) (k : ℕ) (xs : List A) →
    map g (take k xs) ≡ take k (map g xs)
take-mapped g zero xs = refl
take-mapped g (suc k) [] = refl
take-mapped g (suc k) (x ∷ xs) = ap (λ t. g x ∷ t) (take-mapped g k xs)

-- a cell written
pub cell-mapped : {A B : Type 0} (f : A → B) (how : How) (place : ℕ) (a : A) (cs : List (Cell A)) →
    map (cell_map f) (with_cell how place (fresh_cell a) cs) ≡ with_cell how place
    (fresh_cell (f a)) (map (cell_map f) cs)
cell-mapped f Forward place a cs = set-mapped (cell_map f) cs place (fresh_cell a)
cell-mapped f Backward place a cs = set-mapped (cell_map f) cs place (fresh_cell a)
cell-mapped f Insert place a cs = insert-mapped (cell_map f) cs place (fresh_cell a)
cell-mapped f Append place a cs = append-mapped (cell_map f) cs (fresh_cell a ∷ [])

current-written : {A B : Type 0} (f : A → B) (how : How) (place more : ℕ) (a : A)
    (ls : List (Layer A)) → map (layer_map f) (with_current (with_written how place a more) ls)
    ≡ with_current (with_written how place (f a) more) (map (layer_map f) ls)
current-written f how place more a [] = refl
current-written f how place more a (l ∷ ls) = rw (cell-mapped f how place a l.cells) refl

-- a new cell written
pub newly-mapped : {A B : Type 0} (f : A → B) (how : How) (place : ℕ) (a : A) (s : Stack A) →
    stack_map f (newly_written how place a s) ≡ newly_written how place (f a) (stack_map f s)
newly-mapped f how place a s =
    rw (current-written f how place (if is_some s.streak then 0 else 2) a s.layers) refl

cut-mapped : {A B : Type 0} (f : A → B) (cut : Option ℕ) (cs : List (Cell A)) →
    map (cell_map f) (cut_cells cut cs) ≡ cut_cells cut (map (cell_map f) cs)
cut-mapped f None cs = refl
cut-mapped f (Some k) cs = take-mapped (cell_map f) k cs

unmarked-mapped : {A B : Type 0} (f : A → B) (cs : List (Cell A)) →
    map (cell_map f) (unmarked cs) ≡ unmarked (map (cell_map f) cs)
unmarked-mapped f cs = rw (contents-mapped f cs, old-mapped f (contents cs)) refl

closed-mapped : {A B : Type 0} (f : A → B) (cells : List (Cell A)) (t : ℕ) (l : Layer A) →
    layer_map f (closed_layer cells t l) ≡ closed_layer (map (cell_map f) cells) t (layer_map f l)
closed-mapped f cells t l = rw (unmarked-mapped f cells, length-map cells (cell_map f)) refl

current-finished : {A B : Type 0} (f : A → B) (cut : Option ℕ) (t : ℕ) (ls : List (Layer A)) →
    map (layer_map f) (with_current (finished_layer cut t) ls) ≡ with_current (finished_layer cut t)
    (map (layer_map f) ls)
current-finished f cut t [] = refl
current-finished f cut t (l ∷ ls) =
    rw (closed-mapped f (cut_cells cut l.cells) t l, cut-mapped f cut l.cells) refl

-- a closing
pub finished-mapped : {A B : Type 0} (f : A → B) (cut : Option ℕ) (s : Stack A) →
    stack_map f (finished cut s) ≡ finished cut (stack_map f s)
finished-mapped f cut s = rw (current-finished f cut s.tape s.layers) refl

dropped-from : {A B : Type 0} (f : A → B) (ls : List (Layer A)) (s : Stack A) → s.layers ≡ ls →
    stack_map f (dropped s) ≡ dropped (stack_map f s)
dropped-from f [] s e = rw (e) refl
dropped-from f (l ∷ ls) s e = rw (e) refl

-- a layer removed
pub dropped-mapped : {A B : Type 0} (f : A → B) (s : Stack A) →
    stack_map f (dropped s) ≡ dropped (stack_map f s)
dropped-mapped f s = dropped-from f s.layers s refl

undone-from : {A B : Type 0} (f : A → B) (ls : List (Layer A)) (s : Stack A) → s.layers ≡ ls →
    stack_map f (undone s) ≡ undone (stack_map f s)
undone-from f [] s e = rw (e) refl
undone-from f (l ∷ ls) s e = rw (e) refl

-- an undo
pub undone-mapped : {A B : Type 0} (f : A → B) (s : Stack A) →
    stack_map f (undone s) ≡ undone (stack_map f s)
undone-mapped f s = undone-from f s.layers s refl

redone-from : {A B : Type 0} (f : A → B) (ls : List (Layer A)) (s : Stack A) → s.redo ≡ ls →
    stack_map f (redone s) ≡ redone (stack_map f s)
redone-from f [] s e = rw (e) refl
redone-from f (l ∷ ls) s e = rw (e) refl

-- a redo
pub redone-mapped : {A B : Type 0} (f : A → B) (s : Stack A) →
    stack_map f (redone s) ≡ redone (stack_map f s)
redone-mapped f s = redone-from f s.redo s refl

base-mapped : {A B : Type 0} (f : A → B) (l : Layer A) →
    layer_map f (with_base l) ≡ with_base (layer_map f l)
base-mapped f l = rw (append-mapped (cell_map f) l.cells (old_cells l.base), old-mapped f l.base)
    refl

current-extended : {A B : Type 0} (f : A → B) (ls : List (Layer A)) →
    map (layer_map f) (with_current with_base ls) ≡ with_current with_base (map (layer_map f) ls)
current-extended f [] = refl
current-extended f (l ∷ ls) = rw (base-mapped f l) refl

-- an extension
pub extended-mapped : {A B : Type 0} (f : A → B) (s : Stack A) →
    stack_map f (extended s) ≡ extended (stack_map f s)
extended-mapped f s = rw (current-extended f s.layers) refl

unmarked-layer-mapped : {A B : Type 0} (f : A → B) (ls : List (Layer A)) →
    map (layer_map f) (with_current unmarked_layer ls) ≡ with_current unmarked_layer
    (map (layer_map f) ls)
unmarked-layer-mapped f [] = refl
unmarked-layer-mapped f (l ∷ ls) = rw (unmarked-mapped f l.cells) refl

-- the current list
pub list-mapped : {A B : Type 0} (f : A → B) (ls : List (Layer A)) →
    current_list (map (layer_map f) ls) ≡ map f (current_list ls)
list-mapped f [] = refl
list-mapped f (l ∷ ls) = contents-mapped f l.cells

-- a pin
pub pinned-mapped : {A B : Type 0} (f : A → B) (s : Stack A) →
    stack_map f (pinned s) ≡ pinned (stack_map f s)
pinned-mapped f s = rw (unmarked-layer-mapped f s.layers, list-mapped f s.layers) refl

-- its release
pub unpinned-mapped : {A B : Type 0} (f : A → B) (s : Stack A) →
    stack_map f (unpinned s) ≡ unpinned (stack_map f s)
unpinned-mapped f s = refl

-- whether a cell is fresh is the same of frames and addresses
pub fresh_at-mapped : {A B : Type 0} (f : A → B) (k : ℕ) (cs : List (Cell A)) →
    is_fresh (slice_get (map (cell_map f) cs) k) ≡ is_fresh (slice_get cs k)
fresh_at-mapped f k [] = refl
fresh_at-mapped f zero (c ∷ cs) = refl
fresh_at-mapped f (suc k) (c ∷ cs) = fresh_at-mapped f k cs

-- the current cells
pub cells-mapped : {A B : Type 0} (f : A → B) (ls : List (Layer A)) →
    current_cells (map (layer_map f) ls) ≡ map (cell_map f) (current_cells ls)
cells-mapped f [] = refl
cells-mapped f (l ∷ ls) = refl

-- whether a write meets a fresh cell
pub fresh-mapped : {A B : Type 0} (f : A → B) (how : How) (place : ℕ) (s : Stack A) →
    meets_fresh how place (stack_map f s) ≡ meets_fresh how place s
fresh-mapped f how place s =
    rw (cells-mapped f s.layers, fresh_at-mapped f place (current_cells s.layers)) refl

-- whether a new cell fits
pub new-fits-mapped : {A B : Type 0} (f : A → B) (r : ℕ) (how : How) (s : Stack A) →
    new_cell_fits r how (stack_map f s) ≡ new_cell_fits r how s
new-fits-mapped f r how s =
    rw (
      total-mapped f s.layers,
      cells-mapped f s.layers,
      length-map (current_cells s.layers) (cell_map f),
    ) refl

-- whether a write fits
pub fits-mapped : {A B : Type 0} (f : A → B) (r : ℕ) (how : How) (place : ℕ) (s : Stack A) →
    write_fits r how place (stack_map f s) ≡ write_fits r how place s
fits-mapped f r how place s = rw (fresh-mapped f how place s, new-fits-mapped f r how s) refl

-- the current length
pub lengths-mapped : {A B : Type 0} (f : A → B) (ls : List (Layer A)) →
    current_length (map (layer_map f) ls) ≡ current_length ls
lengths-mapped f [] = refl
lengths-mapped f (l ∷ ls) = length-map l.cells (cell_map f)

-- the length of the base
pub bases-mapped : {A B : Type 0} (f : A → B) (ls : List (Layer A)) →
    current_base_length (map (layer_map f) ls) ≡ current_base_length ls
bases-mapped f [] = refl
bases-mapped f (l ∷ ls) = length-map l.base f

-- the seams of the base
pub base_seams-mapped : {A B : Type 0} (f : A → B) (ls : List (Layer A)) →
    current_base_seams (map (layer_map f) ls) ≡ current_base_seams ls
base_seams-mapped f [] = refl
base_seams-mapped f (l ∷ ls) = refl

-- whether an extension fits
pub extension-mapped : {A B : Type 0} (f : A → B) (s : Stack A) →
    extension_fits (stack_map f s) ≡ extension_fits s
extension-mapped f s =
    rw (
      lengths-mapped f s.layers,
      bases-mapped f s.layers,
      total-mapped f s.layers,
      base_seams-mapped f s.layers,
    ) refl

-- an extension where it fits
pub extended_if-mapped : {A B : Type 0} (f : A → B) (b : Bool) (s : Stack A) →
    stack_map f (extended_if b s) ≡ extended_if b (stack_map f s)
extended_if-mapped f true s = extended-mapped f s
extended_if-mapped f false s = refl

-- the current cycle
pub cycle-mapped : {A B : Type 0} (f : A → B) (ls : List (Layer A)) →
    current_cycle (map (layer_map f) ls) ≡ current_cycle ls
cycle-mapped f [] = refl
cycle-mapped f (l ∷ ls) = refl

-- a loading
pub loaded-mapped : {A B : Type 0} (f : A → B) (list : List A) (cycle : ℕ) (s : Stack A) →
    stack_map f (loaded list cycle s) ≡ loaded (map f list) cycle (stack_map f s)
loaded-mapped f list cycle s = rw (old-mapped f list, length-map list f) refl

-- the pinned list
pub pinned_list-mapped : {A B : Type 0} (f : A → B) (p : Option (Pin A)) →
    pinned_list (pin_map f p) ≡ map f (pinned_list p)
pinned_list-mapped f None = refl
pinned_list-mapped f (Some p) = refl

-- contents that agree below a bound
map-agrees : {A : Type 0} (f g : ℕ → A) (n : ℕ) (xs : List ℕ) → ((a : ℕ) → a < n → f a ≡ g a) →
    Below n xs → map f xs ≡ map g xs
map-agrees f g n [] e b = refl
map-agrees f g n (x ∷ xs) e b = rw (e x b.0, map-agrees f g n xs e b.1) refl

cells-agree : {A : Type 0} (f g : ℕ → A) (n : ℕ) (cs : List (Cell ℕ)) →
    ((a : ℕ) → a < n → f a ≡ g a) → Below n (contents cs) →
    map (cell_map f) cs ≡ map (cell_map g) cs
cells-agree f g n [] e b = refl
cells-agree f g n (c ∷ cs) e b = rw (e c.content b.0, cells-agree f g n cs e b.1) refl

layers-agree : {A : Type 0} (f g : ℕ → A) (n : ℕ) (ls : List (Layer ℕ)) →
    ((a : ℕ) → a < n → f a ≡ g a) → AllByRecursion (LayerBelow n) ls →
    map (layer_map f) ls ≡ map (layer_map g) ls
layers-agree f g n [] e b = refl
layers-agree f g n (l ∷ ls) e b =
    rw (
      cells-agree f g n l.cells e b.0.0,
      map-agrees f g n l.base e b.0.1,
      layers-agree f g n ls e b.1,
    ) refl

pin-agrees : {A : Type 0} (f g : ℕ → A) (n : ℕ) (p : Option (Pin ℕ)) →
    ((a : ℕ) → a < n → f a ≡ g a) → PinBelow n p → pin_map f p ≡ pin_map g p
pin-agrees f g n None e b = refl
pin-agrees f g n (Some p) e b = rw (map-agrees f g n p.list e b) refl

-- contents that agree below the tape length give the same stack
pub stack-agrees : {A : Type 0} (f g : ℕ → A) (n : ℕ) (s : Stack ℕ) →
    ((a : ℕ) → a < n → f a ≡ g a) → StackBelow n s → stack_map f s ≡ stack_map g s
stack-agrees f g n s e b =
    rw (
      layers-agree f g n s.layers e b.layers,
      layers-agree f g n s.redo e b.redo,
      pin-agrees f g n s.pin e b.pin,
    ) refl

pub ruleset openings = (opening_tape-mapped, opening-mapped)
