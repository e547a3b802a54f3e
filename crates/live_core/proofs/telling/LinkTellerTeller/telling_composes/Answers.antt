use Rattle.live_core.proofs.TellingLemmas.{tells_then}
use Rattle.live_core.proofs.telling.LinkTellerTeller.telling_composes.Goals as goal

pub returns-clause-more : goal.returns-clause-more
returns-clause-more g c = λ x y z first next f h.
    tells_then (g.L.Link.seen x.link) (g.L.Link.seen y.link) (g.L.Link.seen z.link) x.account
    y.account z.account first next f h
