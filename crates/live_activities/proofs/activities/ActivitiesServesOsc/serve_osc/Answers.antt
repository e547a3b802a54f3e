use Rattle.std.proofs.Common.{sym, subst}
use Rattle.osc_serving.specs.Serving.{osc_at}
use Rattle.live_session.specs.Osc.{OscRan}
use Rattle.live_joining.specs.declared.activities.OscOver.{OscOver}
use Rattle.live_joining.specs.Parts as parts
use Rattle.live_joining.specs.Causes.{lacked_memory}
use Rattle.live_activities.proofs.OscLemmas.{osc_ran}
use Rattle.live_activities.proofs.activities.ActivitiesServesOsc.serve_osc.Goals as goal

pub returns-clause-ran : goal.returns-clause-ran
returns-clause-ran g c =
    let l = g.L.Link.seen c.args.link.now in
    let l' = g.L.Link.seen c.serve_osc.new.link in
    subst (λ (e : OscOver). OscRan (parts.osc_at l c.args.sender.now c.args.replies.now)
    (parts.osc_at l' c.serve_osc.new.sender c.serve_osc.new.replies) (lacked_memory e))
    (sym c.told_as.ensures)
    (osc_ran (osc_at l c.args.sender.now c.args.replies.now c.args.over.now) (osc_at l'
    c.serve_osc.new.sender c.serve_osc.new.replies c.serve_osc.new.over) c.serve_osc.result
    c.serve_osc.ensures)
