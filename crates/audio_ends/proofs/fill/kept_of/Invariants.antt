use Rattle.std.proofs.Common.{◌≡◌, take}
use Rattle.audio_ends.proofs.fill.kept_of.Given as goal

abbrev pub invariant-loop-index : goal.invariant-loop-index
invariant-loop-index l = l.kept.items ≡ take l.index l.bytes
