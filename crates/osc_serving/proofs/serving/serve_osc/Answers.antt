use Rattle.osc_serving.specs.Serving.{osc_at}
use Rattle.osc_serving.proofs.TurnLemmas.{did_later}
use Rattle.osc_serving.proofs.serving.serve_osc.Goals as goal

pub returns-in-None : goal.returns-in-None
returns-in-None g c = did_later (osc_at (g.L.Link.seen c.args.link.now) c.args.sender.now
    c.args.replies.now c.args.over.now) (osc_at (g.L.Link.seen c.serve_link.new.link)
    c.serve_link.new.sender c.serve_link.new.replies c.serve_link.new.over) (osc_at (g.L.Link.seen
    c.serve_replies.new.link) c.serve_replies.new.sender c.serve_replies.new.replies
    c.serve_replies.new.over) c.serve_replies.result c.in-None.ensures.0 c.serve_replies.ensures
