use Rattle.looper_engine.proofs.StretchLemmas.{more_loops_sound}
use Rattle.looper_engine.proofs.laws.an_engine_with_more_loops_sounds_the_same.Goals as goal

pub returns : goal.returns
returns c = more_loops_sound
