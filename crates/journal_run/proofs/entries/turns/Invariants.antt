-- The run has come so far by the entries so far.
use Rattle.std.proofs.Common.{◌≡◌}
use Rattle.engine_steps.specs.Engines.{Beginning}
use Rattle.journal_run.specs.Performing.{HasTaken, IsComing, IsPlayable}
use Rattle.journal_run.proofs.entries.turns.Given as goal

abbrev pub invariant-loop-index : goal.invariant-loop-index
invariant-loop-index g l = record {
  reads : g.P.Keeper.read_faults l.keeper ≡ g.P.Keeper.read_faults l.fn.keeper;
  coming : IsComing g.P.Keeper l.entries l.input l.index l.keeper l.run;
  come : (b : Beginning) → (start : g.row.P.Denot) → IsPlayable b l.entries l.input →
      HasTaken g.P.Keeper b l.entries l.input start 0 l.fn.keeper l.fn.run →
      HasTaken g.P.Keeper b l.entries l.input start l.index l.keeper l.run;
}
