-- The numbers of layers.
use Rattle.std.proofs.Common.{◌≡◌, ℕ, Bool, true, false, List, [], ◌∷◌, length, Some, refl, sym, if◌then◌else◌}
use Rattle.std.proofs.lemmas.List.{length-map}
use Rattle.sl_base.specs.Sounds.{Sound}
use Rattle.looper_rules.specs.Layers.{Layer, current_list, current_length, current_base_length}
use Rattle.looper_rules.specs.Stack.{Stack}
use Rattle.looper_rules.specs.Mapping.{stack_map}
use Rattle.lazy_fill.specs.Fills.{FillOf}
use Rattle.layer_memory.specs.Kept.{Ordered}
use Rattle.lazy_fill.specs.Marks.{marked_cell}
use Rattle.layer_memory.specs.Inside.{stacked}
use Rattle.layer_memory.specs.declared.layers.Top.{Top}
use Rattle.layer_memory.specs.declared.sizes.Sizes.{Sizes}
use Rattle.layer_memory.specs.Measures.{AreSizes}
use Rattle.layer_memory.proofs.SeenLemmas.{lengths-mapped, cycle-mapped, bases-mapped, layers-mapped, total-mapped}
use Rattle.layer_memory.proofs.ReadLemmas.{length-list}

-- the length with an open layer
pub open-length : (t : Top) (d : FillOf) (closed : List (Layer ℕ)) →
    current_length (stacked (Some t) d closed) ≡ length d.cells
open-length t d closed = length-map d.cells (marked_cell d.floor)

-- the length without one
pub closed-length : (closed : List (Layer ℕ)) → current_length closed ≡ length (current_list closed)
closed-length closed = sym (length-list closed)

-- a closed layer has no base
pub closed-base : (ls : List (Layer ℕ)) → Ordered ls → current_base_length ls ≡ 0
closed-base [] o = refl
closed-base (l ∷ ls) o = rw o.1.0.no_base refl

-- the base of an open layer
pub open-base : (t : Top) (over : Bool) (d : FillOf) (closed : List (Layer ℕ)) → t.over ≡ over →
    current_base_length (stacked (Some t) d closed)
    ≡ (if over then length (current_list closed) else 0)
open-base t true d closed e = rw e refl
open-base t false d closed e = rw e refl

pub ruleset sizes = (open-length, closed-length, closed-base, open-base)
