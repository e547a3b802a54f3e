use Rattle.live_goes.proofs.StandLemmas.{stands_on}
use Rattle.live_goes.proofs.laws.an_engine_that_goes_on_stands.Goals as goal

pub returns : goal.returns
returns c = stands_on
