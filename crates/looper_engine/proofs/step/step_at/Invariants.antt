use Rattle.std.proofs.Common.{◌≡◌, ℕ, ◌-◌, drop}
use Rattle.looper_engine.specs.Steps.{step_behind}
use Rattle.looper_engine.proofs.step.step_at.Given as goal

abbrev pub invariant-loop-list : goal.invariant-loop-list
invariant-loop-list l =
    step_behind l.list (drop l.list l.lengths) l.part ≡ step_behind 0 l.lengths (l.block - 1)
