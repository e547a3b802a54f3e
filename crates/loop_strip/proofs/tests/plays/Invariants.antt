use Rattle.loop_strip.specs.Strips.{Owns}
use Rattle.loop_strip.proofs.tests.plays.Given as goal

abbrev pub invariant-loop-i : goal.invariant-loop-i
invariant-loop-i l = Owns l.strip l.pool
