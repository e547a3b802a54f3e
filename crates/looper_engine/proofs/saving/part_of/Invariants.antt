use Rattle.std.proofs.Common.{◌≡◌, take}
use Rattle.looper_engine.proofs.saving.part_of.Given as goal

abbrev pub invariant-loop-index : goal.invariant-loop-index
invariant-loop-index l = l.part ≡ take l.index l.frames
