-- The numbers of a stack that its loop asks for.
-- "The stack" in docs/rules.md.
use Rattle.std.specs.Prelude.{◌≡◌, length, is_some}
use Rattle.looper_rules.specs.Layers.{total_seams, current_length, current_cycle, current_base_length}
use Rattle.looper_rules.specs.Stack.{Stack}
use Rattle.layer_memory.specs.declared.sizes.Sizes.{Sizes}

-- these are the lengths of the current list and of the open layer's base, the cycle, the numbers of
-- layers and redo layers, all seams, and whether a streak goes on
pub record AreSizes {A : Type 0} (s : Stack A) (z : Sizes) : Type 0 where
  pub list : z.length ≡ current_length s.layers
  pub cycle : z.cycle ≡ current_cycle s.layers
  pub base : z.base ≡ current_base_length s.layers
  pub layers : z.layers ≡ length s.layers
  pub redo : z.redo ≡ length s.redo
  pub seams : z.seams ≡ total_seams s.layers
  pub streak : z.streak ≡ is_some s.streak
