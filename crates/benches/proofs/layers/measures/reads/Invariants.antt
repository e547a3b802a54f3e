use Rattle.benches.specs.Phases.{IsIdle}
use Rattle.benches.proofs.layers.measures.reads.Given as goal

abbrev pub invariant-loop : goal.invariant-loop
invariant-loop l = IsIdle l.layers l.pool
