use Rattle.looper_engine.proofs.StretchLemmas.{went_on-in_one, put_out-in_one}
use Rattle.looper_engine.proofs.laws.frames_are_those_of_their_stretches.Goals as goal

pub returns-clause-engine : goal.returns-clause-engine
returns-clause-engine c = went_on-in_one

pub returns-clause-output : goal.returns-clause-output
returns-clause-output c = put_out-in_one
