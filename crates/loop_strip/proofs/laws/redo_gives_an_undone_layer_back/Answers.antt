use Rattle.loop_strip.proofs.LawLemmas.{strip_given_back, overdub_given_back}
use Rattle.loop_strip.proofs.laws.redo_gives_an_undone_layer_back.Goals as goal

pub returns-clause-stack : goal.returns-clause-stack
returns-clause-stack c = strip_given_back

pub returns-clause-overdub : goal.returns-clause-overdub
returns-clause-overdub c = overdub_given_back
