use Rattle.std.proofs.Common.{◌≡◌, ◌≤◌, ◌-◌, map, length, take, drop}
use Rattle.pieces.specs.Pieces.{addresses}
use Rattle.pieces.specs.Splitting.{IsHint}
use Rattle.loop_tape.specs.Tapes.{at}
use Rattle.layer_memory.proofs.spans.read_pieces.Given as goal

abbrev pub invariant-loop-done : goal.invariant-loop-done
invariant-loop-done l = record {
  within : l.done ≤ length l.out;
  hint : IsHint l.list l.found.piece l.found.begin;
  value : take l.done l.out ≡ map (at l.tape l.pool)
      (take l.done (drop l.place (addresses l.list)));
}

abbrev pub decreases-loop-done : goal.decreases-loop-done
decreases-loop-done l = length l.out - l.done
