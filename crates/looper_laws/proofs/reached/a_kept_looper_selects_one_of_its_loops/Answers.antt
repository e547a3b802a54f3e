use Rattle.looper_laws.proofs.Kept.Selected.{selects}
use Rattle.looper_laws.proofs.reached.a_kept_looper_selects_one_of_its_loops.Goals as goal

pub returns : goal.returns
returns c frame l h = selects frame l h.looper
