use Rattle.live_session.proofs.MetLemmas.{may_settle}
use Rattle.live_session.proofs.laws.a_session_that_has_met_may_be_settled.Goals as goal

pub returns : goal.returns
returns g c = λ b bindings s t state memory m told h met.
    may_settle g.P.Keeper b bindings s t state memory h m met told
