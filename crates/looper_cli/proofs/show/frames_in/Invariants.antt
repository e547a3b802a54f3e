-- The frames so far, and those that are left, are all of them.
use Rattle.std.proofs.Common.{◌≡◌, ◌+◌, ◌*◌, ◌≤◌, drop}
use Rattle.std.specs.Prelude.{sum_by}
use Rattle.looper_cli.specs.Console.{length_in}
use Rattle.looper_cli.proofs.show.frames_in.Given as goal

abbrev pub invariant-strips : goal.invariant-strips
invariant-strips l =
    (l.frames + sum_by length_in (drop l.index l.strips) ≡ sum_by length_in l.strips)
    × (l.frames ≤ l.index * 4294967295)
