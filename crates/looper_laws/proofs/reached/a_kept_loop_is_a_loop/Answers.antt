use Rattle.looper_laws.proofs.reached.a_kept_loop_is_a_loop.Goals as goal

pub returns : goal.returns
returns c a l h = h.loop
