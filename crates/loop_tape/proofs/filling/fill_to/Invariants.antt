use Rattle.std.proofs.Common.{◌≡◌, ◌≤◌, ◌-◌, length}
use Rattle.std.specs.Vec.{vec_capacity}
use Rattle.loop_tape.specs.Pools.{padded}
use Rattle.loop_tape.proofs.filling.fill_to.Given as goal

abbrev pub invariant-loop-frames : goal.invariant-loop-frames
invariant-loop-frames l = record {
  items : padded l.length l.frames.items ≡ padded l.length l.fn.frames.items;
  capacity : vec_capacity l.fn.frames ≤ vec_capacity l.frames;
}

abbrev pub decreases-loop-frames : goal.decreases-loop-frames
decreases-loop-frames l = l.length - length l.frames.items
