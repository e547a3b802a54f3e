-- The saver has accepted exactly the blocks that were taken, one after another, and their outcomes
-- are those that were put on the saver's ring and those that are remembered.
-- "The world on one thread" in docs/rules.md.
use Rattle.std.specs.Prelude.{None}
use Rattle.sl_ports.specs.declared.keepers.Keeper.{Ghosts as Keeper}
use Rattle.loop_saver.specs.Savers.{SaverOf}
use Rattle.loop_saver.specs.Keeping.{Keeps}
use Rattle.ring_world.specs.declared.lists.Lists.{Lists}
use Rattle.ring_world.specs.Standing.{outcomes_in}

-- from this keeper on
pub record KeepsSaves {P : Type 0} (k : Keeper P) (first now : P) (s : SaverOf)
    (w : Lists) : Type 0 where
  pub keeps : Keeps k s.rate w.blocks.taken None first (outcomes_in w.blocks.taken) s.saving now

-- from some keeper on
pub record AreKept {P : Type 0} (k : Keeper P) (now : P) (s : SaverOf) (w : Lists) : Type 0 where
  pub first : P
  pub saves : KeepsSaves k first now s w
