use Rattle.looper_laws.proofs.Undo.Layers.{closed_stands}
use Rattle.looper_laws.proofs.undoing.a_closed_layer_keeps_its_list.Goals as goal

pub returns : goal.returns
returns c l writing some = closed_stands l.deck.mode l some
