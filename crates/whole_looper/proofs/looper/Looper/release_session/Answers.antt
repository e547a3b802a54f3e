use Rattle.whole_looper.proofs.LooperLemmas.{all_released_did}
use Rattle.whole_looper.proofs.looper.Looper.release_session.Goals as goal

pub returns-clause-looper : goal.returns-clause-looper
returns-clause-looper c = all_released_did _ _ _ _ _ _ _ c.self.view_is c.release_all.ensures
