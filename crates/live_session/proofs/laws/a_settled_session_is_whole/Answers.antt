use Rattle.live_session.proofs.WholeLemmas.{is_whole}
use Rattle.live_session.proofs.laws.a_settled_session_is_whole.Goals as goal

pub returns : goal.returns
returns g c = λ b bindings s t state memory m rings before u osc h met is_left st told.
    is_whole g.P.Keeper b bindings s t state memory h m met rings before u is_left st osc told
