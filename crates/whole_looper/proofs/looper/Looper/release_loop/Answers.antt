use Rattle.whole_looper.proofs.LooperLemmas.{released_did}
use Rattle.whole_looper.proofs.looper.Looper.release_loop.Goals as goal

pub returns-clause-looper : goal.returns-clause-looper
returns-clause-looper c = released_did _ _ _ _ _ _ _ _ c.self.view_is c.release.ensures
