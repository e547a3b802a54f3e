use Rattle.std.proofs.Common.{take}
use Rattle.loop_strip.specs.Quiet.{AreSoft}
use Rattle.loop_strip.proofs.spans.quiet.soft_frames.Given as goal

abbrev pub invariant-loop-i : goal.invariant-loop-i
invariant-loop-i l = AreSoft l.threshold (take l.i l.input)
