use Rattle.whole_looper.proofs.LooperLemmas.{session_saved}
use Rattle.whole_looper.proofs.looper.Looper.save_session.Goals as goal

pub returns-clause-looper : goal.returns-clause-looper
returns-clause-looper c =
    session_saved _ _ _ _ _ _ _ _ _ c.self.view_is c.any_pinned.ensures c.if-any_pinned.false
    c.pin_all.ensures
