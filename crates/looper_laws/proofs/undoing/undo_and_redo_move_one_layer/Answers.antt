use Rattle.looper_laws.proofs.Undo.Openings.{acts_undo_stack, acts_redo_stack}
use Rattle.looper_laws.proofs.undoing.undo_and_redo_move_one_layer.Goals as goal

pub returns-clause-undo : goal.returns-clause-undo
returns-clause-undo c = acts_undo_stack

pub returns-clause-redo : goal.returns-clause-redo
returns-clause-redo c = acts_redo_stack
