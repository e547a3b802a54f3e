use Rattle.live_session.proofs.MetLemmas.{same_rings}
use Rattle.live_session.proofs.laws.the_ends_of_a_session_are_of_its_rings.Goals as goal

pub returns : goal.returns
returns g c = λ b bindings s t state memory h. same_rings g.P.Keeper b bindings s t state memory h
