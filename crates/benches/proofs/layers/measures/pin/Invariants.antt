use Rattle.benches.specs.Phases.{IsIdle}
use Rattle.benches.proofs.layers.measures.pin.Given as goal

abbrev pub invariant-loop : goal.invariant-loop
invariant-loop l = IsIdle l.layers l.pool
