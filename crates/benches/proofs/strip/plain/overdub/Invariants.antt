use Rattle.std.proofs.Common.{◌≡◌, ◌<◌, length}
use Rattle.benches.proofs.strip.plain.overdub.Given as goal

abbrev pub invariant-loop-i : goal.invariant-loop-i
invariant-loop-i l = record {
  place : l.place < length l.list;
  same_list : length l.list ≡ length l.fn.list;
  same_heard : length l.heard ≡ length l.fn.heard;
}
