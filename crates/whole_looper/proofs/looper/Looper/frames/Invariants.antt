use Rattle.std.proofs.Common.{take, length, ◌≤◌, ◌-◌}
use Rattle.whole_looper.specs.Spans.{HasBegun}
use Rattle.whole_looper.proofs.looper.Looper.frames.Given as goal

abbrev pub invariant-loop-done : goal.invariant-loop-done
invariant-loop-done l =
    HasBegun l.frame (take l.done l.input) (take l.done l.output) l.fn.self l.self ×
    (l.done ≤ length l.input)

abbrev pub decreases-loop-done : goal.decreases-loop-done
decreases-loop-done l = length l.input - l.done
