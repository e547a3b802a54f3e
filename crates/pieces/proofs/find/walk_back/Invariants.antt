use Rattle.pieces.specs.Splitting.{IsHint}
use Rattle.pieces.proofs.find.walk_back.Given as goal

abbrev pub invariant-loop-begin : goal.invariant-loop-begin
invariant-loop-begin l = IsHint l.list l.piece l.begin

abbrev pub decreases-loop-begin : goal.decreases-loop-begin
decreases-loop-begin l = l.piece
