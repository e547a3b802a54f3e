use Rattle.std.proofs.Common.{◌≡◌, ◌<◌, length}
use Rattle.benches.proofs.strip.plain.all.Given as goal

abbrev pub invariant-loop : goal.invariant-loop
invariant-loop l = record {
  some : 0 < length l.list;
  same_length : length l.input ≡ length l.heard;
}
