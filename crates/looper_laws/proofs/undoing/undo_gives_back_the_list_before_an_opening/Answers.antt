use Rattle.std.proofs.Common.{ap}
use Rattle.looper_rules.specs.Layers.{current_list}
use Rattle.looper_laws.proofs.Undo.Layers.{undo_opened}
use Rattle.looper_laws.proofs.undoing.undo_gives_back_the_list_before_an_opening.Goals as goal

pub returns-clause-list : goal.returns-clause-list
returns-clause-list c reach before opened now opens stays some =
    ap current_list (undo_opened reach before opened now opens stays some)

pub returns-clause-layers : goal.returns-clause-layers
returns-clause-layers c = undo_opened
