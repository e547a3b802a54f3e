-- The saver has come so far with the files that are due.
use Rattle.std.proofs.Common.{◌≡◌, length}
use Rattle.loop_saver.specs.Savers.{due_for_all}
use Rattle.std.specs.Prelude.{None}
use Rattle.engine_steps.specs.Engines.{Beginning, left}
use Rattle.engine_steps.specs.InStep.{SoFar, IsInStep}
use Rattle.loop_saver.specs.Coming.{Feeds}
use Rattle.save_feeding.specs.Feeding.{IsSomehowInStep, SentOn}
use Rattle.save_feeding.proofs.feeding.feed.Given as goal

abbrev pub invariant-feeding : goal.invariant-feeding
invariant-feeding g l = record {
  rate : l.saver.rate ≡ l.fn.saver.rate;
  reads : g.P.Keeper.read_faults l.keeper ≡ g.P.Keeper.read_faults l.fn.keeper;
  feeds : Feeds g.P.Keeper l.fn.saver.rate (due_for_all l.fn.saver.rate None (left l.fn.engine))
      l.fn.keeper l.keeper l.saver.saving (left l.engine);
  step : IsSomehowInStep l.engine;
  sent : (b : Beginning) → (s : SoFar) → IsInStep b s l.fn.engine → SentOn b s l.engine;
  journal : l.engine.journal ≡ l.fn.engine.journal;
}

abbrev pub decreases-feeding : goal.decreases-feeding
decreases-feeding g l = length (left l.engine)
