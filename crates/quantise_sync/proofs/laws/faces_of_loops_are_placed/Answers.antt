use Rattle.quantise_sync.proofs.PlacedLemmas.{loop_is_placed}
use Rattle.quantise_sync.proofs.laws.faces_of_loops_are_placed.Goals as goal

pub returns-clause-frames : goal.returns-clause-frames
returns-clause-frames c l h = loop_is_placed l h

pub returns-clause-addresses : goal.returns-clause-addresses
returns-clause-addresses c l h = loop_is_placed l h
