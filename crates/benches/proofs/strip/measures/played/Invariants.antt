use Rattle.std.proofs.Common.{◌≡◌, length}
use Rattle.loop_strip.specs.Strips.{Owns}
use Rattle.benches.proofs.strip.measures.played.Given as goal

abbrev pub invariant-loop : goal.invariant-loop
invariant-loop l = record {
  owns : Owns l.strip l.pool;
  same_length : length l.input ≡ length l.heard;
}
