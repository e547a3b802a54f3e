use Rattle.benches.specs.Phases.{IsWriting}
use Rattle.benches.proofs.layers.measures.new_cells.Given as goal

abbrev pub invariant-loop : goal.invariant-loop
invariant-loop l = IsWriting l.layers l.pool
