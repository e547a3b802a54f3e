use Rattle.engine_steps.proofs.ReachedLemmas.{looper_kept, saves_counted}
use Rattle.engine_steps.proofs.laws.an_engine_in_step_keeps_its_looper.Goals as goal

pub returns-clause-kept : goal.returns-clause-kept
returns-clause-kept c = looper_kept

pub returns-clause-saves : goal.returns-clause-saves
returns-clause-saves c = saves_counted
