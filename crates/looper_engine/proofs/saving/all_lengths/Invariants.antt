use Rattle.std.proofs.Common.{◌≡◌, take, map, length}
use Rattle.looper_engine.specs.Holding.{pinned_on}
use Rattle.looper_engine.proofs.saving.all_lengths.Given as goal

abbrev pub invariant-loop-index : goal.invariant-loop-index
invariant-loop-index l = l.lengths.items ≡ take l.index (map length (map pinned_on l.looper.tracks))
