use Rattle.engine_steps.proofs.MoreLoopsLemmas.{more_loops}
use Rattle.engine_steps.proofs.more_loops.more_loops_sound_the_same.Goals as goal

pub returns : goal.returns
returns c = more_loops
