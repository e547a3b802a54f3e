use Rattle.looper_laws.proofs.reached.a_kept_looper_is_a_looper.Goals as goal

pub returns : goal.returns
returns c frame l h = h.looper
