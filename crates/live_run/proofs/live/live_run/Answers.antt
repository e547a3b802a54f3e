use Rattle.live_run.proofs.StatusLemmas.{runs}
use Rattle.live_run.proofs.live.live_run.Goals as goal

pub returns-in-Ok : goal.returns-in-Ok
returns-in-Ok g c =
    runs g.P.Keeper g.A.Source g.O.Sink g.L.Link g.M.Source g.C.Sink c.in-Ok.asked c.args.outside
    c.play.result c.play.ensures.named _ c.in-Ok.ensures c.play.ensures.plays
