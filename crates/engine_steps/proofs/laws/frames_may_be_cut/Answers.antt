use Rattle.engine_steps.proofs.StepLemmas.{went_on-append, put_out-append}
use Rattle.engine_steps.proofs.laws.frames_may_be_cut.Goals as goal

pub returns-clause-engine : goal.returns-clause-engine
returns-clause-engine c = went_on-append

pub returns-clause-output : goal.returns-clause-output
returns-clause-output c = put_out-append
