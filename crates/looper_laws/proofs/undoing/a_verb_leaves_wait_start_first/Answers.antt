use Rattle.std.proofs.Common.{refl}
use Rattle.looper_laws.proofs.Undo.Openings.{record_in_wait, acts_in_wait}
use Rattle.looper_laws.proofs.undoing.a_verb_leaves_wait_start_first.Goals as goal

pub returns-clause-recording : goal.returns-clause-recording
returns-clause-recording c = record_in_wait

pub returns-clause-others : goal.returns-clause-others
returns-clause-others c = acts_in_wait

pub returns-clause-stack : goal.returns-clause-stack
returns-clause-stack c l = refl
