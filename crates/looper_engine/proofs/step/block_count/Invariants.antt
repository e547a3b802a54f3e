use Rattle.std.proofs.Common.{◌≡◌, ℕ, ◌+◌, ◌*◌, ◌≤◌, drop}
use Rattle.sl_base.specs.Limits.{max_list_frames}
use Rattle.looper_engine.specs.Steps.{parts_in}
use Rattle.looper_engine.proofs.step.block_count.Given as goal

abbrev pub invariant-loop-length : goal.invariant-loop-length
invariant-loop-length l = record {
  whole : l.count + parts_in (drop l.length-index l.lengths) ≡ parts_in l.lengths + 2;
  few : l.count ≤ 2 + l.length-index * max_list_frames;
}
