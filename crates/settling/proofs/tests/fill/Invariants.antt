-- There is room for the questions that are left.
use Rattle.std.proofs.Common.{◌+◌, ◌≤◌, length}
use Rattle.event_rings.specs.Ends.{SamePutRing}
use Rattle.settling.proofs.tests.fill.Given as goal

abbrev pub invariant-loop-item : goal.invariant-loop-item
invariant-loop-item g l = record {
  room : length l.putter.sent + l.count ≤ l.putter.limit + l.item;
  few : length l.putter.sent ≤ length l.fn.putter.sent + l.item;
  ring : SamePutRing l.fn.putter l.putter;
}
