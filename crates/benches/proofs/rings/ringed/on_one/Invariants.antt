use Rattle.std.proofs.Common.{◌≡◌, length}
use Rattle.event_rings.specs.Ends.{max_limit}
use Rattle.benches.proofs.rings.ringed.on_one.Given as goal

abbrev pub invariant-loop-number : goal.invariant-loop-number
invariant-loop-number g l = (length l.putter.sent ≡ l.number) × (l.putter.limit ≡ max_limit)
