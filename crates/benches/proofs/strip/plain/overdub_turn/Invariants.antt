use Rattle.std.proofs.Common.{◌≡◌, ◌<◌, length}
use Rattle.benches.proofs.strip.plain.overdub_turn.Given as goal

abbrev pub invariant-loop : goal.invariant-loop
invariant-loop l = record {
  place : l.place < length l.list;
  same_list : length l.list ≡ length l.fn.list;
  same_heard : length l.input ≡ length l.heard;
}
