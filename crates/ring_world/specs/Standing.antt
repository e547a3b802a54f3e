-- A world stands where engine and rings are in step with what was played, the output that it keeps
-- is that of the run, and the outcomes that were put on the saver's ring, followed by those that
-- are remembered, are one for each end of a save among the blocks that were taken, in order. No
-- sender is beyond the quota. "The world on one thread" in docs/rules.md.
use Rattle.std.specs.Prelude.{◌≡◌, ◌≤◌, ℕ, List, [], ◌∷◌, ◌++◌, length}
use Rattle.sl_base.specs.Sounds.{Sound}
use Rattle.sl_commands.specs.declared.Block.{Block}
use Rattle.engine_steps.specs.Engines.{Beginning}
use Rattle.live_steps.specs.InStep.{AreInStep}
use Rattle.ring_world.specs.declared.lists.Lists.{Lists}
use Rattle.ring_world.specs.Rings.{sent}
use Rattle.ring_world.specs.Worlds.{passed}
use Rattle.ring_world.specs.Stepping.{outcome_of}

-- the outcomes of the saves that end in these blocks
abbrev pub outcomes_in : List Block → List ℕ
outcomes_in [] = []
outcomes_in (b ∷ bs) = outcome_of b ++ outcomes_in bs

-- the lists are in step with what was played
pub record IsInStep (b : Beginning) (input : List Sound) (w : Lists) : Type 0 where
  pub step : AreInStep b input w.output w.engine (passed w)
  pub outcomes : sent w.saver ++ w.remembered ≡ outcomes_in w.blocks.taken
  pub osc : length (sent w.osc) ≤ w.engine.journal.quota
  pub midi : length (sent w.midi) ≤ w.engine.journal.quota

-- they are so with something
pub record IsWorld (w : Lists) : Type 0 where
  pub beginning : Beginning
  pub input : List Sound
  pub step : IsInStep beginning input w
