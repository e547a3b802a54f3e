use Rattle.std.proofs.Common.{◌≡◌, ◌≤◌, length}
use Rattle.event_rings.specs.Ends.{max_limit}
use Rattle.benches.proofs.rings.ringed.put_all.Given as goal

abbrev pub invariant-loop : goal.invariant-loop
invariant-loop g l =
    (goal.iterator-loop g).can_next l.iterator'
    × (goal.iterator-loop g).is_finite l.iterator'
    × (length l.putter.sent ≡ l.next)
    × (l.next ≤ l.count)
    × (l.putter.limit ≡ max_limit)
