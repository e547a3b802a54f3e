use Rattle.looper_laws.proofs.Undo.Layers.{redo_undo, redo_undo_stands}
use Rattle.looper_laws.proofs.undoing.redo_gives_back_the_layer_that_undo_moved.Goals as goal

pub returns-clause-stack : goal.returns-clause-stack
returns-clause-stack c = redo_undo

pub returns-clause-closed : goal.returns-clause-closed
returns-clause-closed c = redo_undo_stands
