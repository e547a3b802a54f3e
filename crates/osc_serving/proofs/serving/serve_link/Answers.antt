use Rattle.osc_serving.specs.Serving.{osc_at}
use Rattle.osc_serving.proofs.TurnLemmas.{goes_none, goes_later, did_later}
use Rattle.osc_serving.proofs.serving.serve_link.Goals as goal

pub turns-init : goal.turns-init
turns-init g c = goes_none (osc_at (g.L.Link.seen c.args.link.now) c.args.sender.now
    c.args.replies.now c.args.over.now)

pub turns-preserved : goal.turns-preserved
turns-preserved g c = goes_later (osc_at (g.L.Link.seen c.args.link.now) c.args.sender.now
    c.args.replies.now c.args.over.now) (osc_at (g.L.Link.seen c.turns.link) c.turns.sender
    c.turns.replies c.turns.over) (osc_at (g.L.Link.seen c.link_turn.new.link)
    c.link_turn.new.sender c.link_turn.new.replies c.link_turn.new.over) c.turns.invariant
    c.in-Goes.ensures

pub returns-in-Waits : goal.returns-in-Waits
returns-in-Waits g c =
    let e = c.in-Waits.ensures in (
      goes_later (osc_at (g.L.Link.seen c.args.link.now) c.args.sender.now c.args.replies.now
          c.args.over.now) (osc_at (g.L.Link.seen c.turns.link) c.turns.sender c.turns.replies
          c.turns.over) (osc_at (g.L.Link.seen c.link_turn.new.link) c.link_turn.new.sender
          c.link_turn.new.replies c.link_turn.new.over) c.turns.invariant e.0,
      e.1,
    )

pub returns-in-Ends : goal.returns-in-Ends
returns-in-Ends g c = did_later (osc_at (g.L.Link.seen c.args.link.now) c.args.sender.now
    c.args.replies.now c.args.over.now) (osc_at (g.L.Link.seen c.turns.link) c.turns.sender
    c.turns.replies c.turns.over) (osc_at (g.L.Link.seen c.link_turn.new.link)
    c.link_turn.new.sender c.link_turn.new.replies c.link_turn.new.over) c.in-Ends.ended
    c.turns.invariant c.in-Ends.ensures
