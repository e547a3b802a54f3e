-- The steps so far, and those that are left, are all of them.
use Rattle.std.proofs.Common.{◌≡◌, ◌≤◌, ◌-◌, ◌++◌}
use Rattle.ring_world.specs.Generating.{steps_from}
use Rattle.ring_world.proofs.generator.steps_of.Given as goal

abbrev pub invariant-loop : goal.invariant-loop
invariant-loop l =
    (l.steps.items ++ steps_from l.state (l.count - l.counter) ≡ steps_from l.number l.count)
    × (l.counter ≤ l.count)
