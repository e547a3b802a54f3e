use Rattle.live_session.proofs.WholeLemmas.{nothing_strange, settled_returned}
use Rattle.live_session.proofs.laws.each_reply_of_a_session_has_a_return_address.Goals as goal

pub returns-clause-strange : goal.returns-clause-strange
returns-clause-strange g c = λ b bindings s t state memory m h met.
    nothing_strange g.P.Keeper b bindings s t state memory h m met

pub returns-clause-settled : goal.returns-clause-settled
returns-clause-settled g c = λ b bindings s t state memory m rings before u h met is_left st.
    settled_returned g.P.Keeper b bindings s t state memory h m met rings before u is_left st
