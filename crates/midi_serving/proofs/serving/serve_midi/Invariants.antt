use Rattle.midi_serving.proofs.GoingLemmas.{SoFar}
use Rattle.midi_serving.proofs.serving.serve_midi.Given as goal

-- no read failed so far, and no number was taken
abbrev pub invariant-turns : goal.invariant-turns
invariant-turns g l =
    SoFar (g.M.Source.seen l.fn.source) (g.M.Source.seen l.source) l.fn.sender l.sender l.fn.over
    l.over
