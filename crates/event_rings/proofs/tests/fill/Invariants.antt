use Rattle.std.proofs.Common.{◌≡◌, ◌+◌, ◌≤◌, length}
use Rattle.event_rings.proofs.tests.fill.Given as goal

abbrev pub invariant-loop-item : goal.invariant-loop-item
invariant-loop-item g l = (length l.putter.sent + l.count ≤ l.putter.limit + l.item)
    × (l.putter.name ≡ l.fn.putter.name)
