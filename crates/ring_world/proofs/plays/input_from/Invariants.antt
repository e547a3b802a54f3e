-- The frames so far, and those that are left, are all of them.
use Rattle.std.proofs.Common.{◌≡◌, ◌≤◌, ◌+◌, ◌-◌, ◌++◌}
use Rattle.ring_world.specs.Inputs.{input_from}
use Rattle.ring_world.proofs.plays.input_from.Given as goal

abbrev pub invariant-loop-done : goal.invariant-loop-done
invariant-loop-done l =
    (l.input.items ++ input_from l.number (l.frame + l.done) (l.frames - l.done)
    ≡ input_from l.number l.frame l.frames)
    × (l.done ≤ l.frames)
