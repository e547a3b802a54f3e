-- Frames where one address has changed that stands alone.
use Rattle.std.proofs.Common.{◌≡◌, ◌≢◌, ◌<◌, ℕ, ◌+◌, true, List, [], ◌∷◌, map, Option, Some, None, refl, arith, suc, zero}
use Rattle.std.specs.List.{AllByRecursion}
use Rattle.std.specs.Prelude.{slice_set}
use Rattle.sl_commands.specs.declared.How.{How}
use Rattle.sl_commands.specs.declared.How.TheVariants.{Forward, Backward, Insert, Append}
use Rattle.looper_rules.specs.Layers.{Cell, Layer, contents, fresh_cell}
use Rattle.looper_rules.specs.Stack.{Stack, Pin, streak_broken}
use Rattle.looper_rules.specs.Mapping.{cell_map, layer_map, pin_map, stack_map}
use Rattle.looper_rules.specs.Writing.{overwrites, rewritten}
use Rattle.lazy_fill.specs.Addresses.{Below, Without}
use Rattle.layer_memory.specs.Kept.{LayerBelow, PinBelow, AtOnce, LayerWithout, PinWithout, AloneIn}

-- contents that agree below a bound, but for one address
map-alike : {A : Type 0} (f g : ℕ → A) (n a : ℕ) (xs : List ℕ) →
    ((b : ℕ) → b < n → b ≢ a → f b ≡ g b) → Below n xs → Without a xs → map f xs ≡ map g xs
map-alike f g n a [] e l w = refl
map-alike f g n a (x ∷ xs) e l w = rw (e x l.0 w.0, map-alike f g n a xs e l.1 w.1) refl

cells-alike : {A : Type 0} (f g : ℕ → A) (n a : ℕ) (cs : List (Cell ℕ)) →
    ((b : ℕ) → b < n → b ≢ a → f b ≡ g b) → Below n (contents cs) → Without a (contents cs) →
    map (cell_map f) cs ≡ map (cell_map g) cs
cells-alike f g n a [] e l w = refl
cells-alike f g n a (c ∷ cs) e l w = rw (e c.content l.0 w.0, cells-alike f g n a cs e l.1 w.1) refl

layers-alike : {A : Type 0} (f g : ℕ → A) (n a : ℕ) (ls : List (Layer ℕ)) →
    ((b : ℕ) → b < n → b ≢ a → f b ≡ g b) → AllByRecursion (LayerBelow n) ls →
    AllByRecursion (LayerWithout a) ls → map (layer_map f) ls ≡ map (layer_map g) ls
layers-alike f g n a [] e l w = refl
layers-alike f g n a (x ∷ ls) e l w =
    rw (
      cells-alike f g n a x.cells e l.0.0 w.0.0,
      map-alike f g n a x.base e l.0.1 w.0.1,
      layers-alike f g n a ls e l.1 w.1,
    ) refl

pin-alike : {A : Type 0} (f g : ℕ → A) (n a : ℕ) (p : Option (Pin ℕ)) →
    ((b : ℕ) → b < n → b ≢ a → f b ≡ g b) → PinBelow n p → PinWithout a p →
    pin_map f p ≡ pin_map g p
pin-alike f g n a None e l w = refl
pin-alike f g n a (Some p) e l w = rw (map-alike f g n a p.list e l w) refl

once-alike : {A : Type 0} (f g : ℕ → A) (n place a : ℕ) (x : A) (cs : List (Cell ℕ)) →
    ((b : ℕ) → b < n → b ≢ a → f b ≡ g b) → f a ≡ x → Below n (contents cs) → AtOnce place a cs →
    map (cell_map f) cs ≡ slice_set (map (cell_map g) cs) place (fresh_cell x)
once-alike f g n place a x [] e ex l w = absurd w
once-alike f g n zero a x (c ∷ cs) e ex l w = rw (w.0, ex, cells-alike f g n a cs e l.1 w.1) refl
once-alike f g n (suc k) a x (c ∷ cs) e ex l w =
    rw (e c.content l.0 w.0, once-alike f g n k a x cs e ex l.1 w.1) refl

-- one address rewritten is one cell rewritten, where it stands once
pub stack-rewritten : {A : Type 0} (f g : ℕ → A) (how : How) (n place a : ℕ) (x : A)
    (layers : List (Layer ℕ)) (s : Stack ℕ) → s.layers ≡ layers → overwrites how ≡ true →
    ((b : ℕ) → b < n → b ≢ a → f b ≡ g b) → f a ≡ x → AllByRecursion (LayerBelow n) layers →
    AllByRecursion (LayerBelow n) s.redo → PinBelow n s.pin → AloneIn place a layers →
    AllByRecursion (LayerWithout a) s.redo → PinWithout a s.pin →
    stack_map f (streak_broken s) ≡ rewritten how place x (stack_map g s)
stack-rewritten f g how n place a x [] s es o e ex lb rb pb w r p = absurd w
stack-rewritten f g Forward n place a x (l ∷ ls) s es o e ex lb rb pb w r p =
    let z : l.seams + 0 ≡ l.seams = omega arith in
    rw (
      es,
      once-alike f g n place a x l.cells e ex lb.0.0 w.0.0,
      map-alike f g n a l.base e lb.0.1 w.0.1,
      layers-alike f g n a ls e lb.1 w.1,
      layers-alike f g n a s.redo e rb r,
      pin-alike f g n a s.pin e pb p,
      z,
    ) refl
stack-rewritten f g Backward n place a x (l ∷ ls) s es o e ex lb rb pb w r p =
    let z : l.seams + 0 ≡ l.seams = omega arith in
    rw (
      es,
      once-alike f g n place a x l.cells e ex lb.0.0 w.0.0,
      map-alike f g n a l.base e lb.0.1 w.0.1,
      layers-alike f g n a ls e lb.1 w.1,
      layers-alike f g n a s.redo e rb r,
      pin-alike f g n a s.pin e pb p,
      z,
    ) refl
stack-rewritten f g Insert n place a x (l ∷ ls) s es o e ex lb rb pb w r p = grind (arith, o)
stack-rewritten f g Append n place a x (l ∷ ls) s es o e ex lb rb pb w r p = grind (arith, o)
