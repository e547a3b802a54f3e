use Rattle.std.proofs.Common.{length, ◌≤◌, ◌-◌, ◌≡◌}
use Rattle.audio_ends.specs.Fills.{HasRead}
use Rattle.audio_ends.proofs.fill.fill_behind.Given as goal

abbrev pub invariant-loop-done : goal.invariant-loop-done
invariant-loop-done g l =
    (l.done ≤ length l.bytes)
    × HasRead (g.A.Source.seen l.fn.source).left (g.A.Source.seen l.source).left l.kept l.done
    l.fn.bytes l.bytes
    × ((g.A.Source.seen l.source).faults ≡ (g.A.Source.seen l.fn.source).faults)
    × ((g.A.Source.seen l.source).idles ≡ (g.A.Source.seen l.fn.source).idles)
    × ((g.A.Source.seen l.source).ended ≡ (g.A.Source.seen l.fn.source).ended)
    × (l.kept ≤ l.done)

abbrev pub decreases-loop-done : goal.decreases-loop-done
decreases-loop-done g l = length l.bytes - l.done
