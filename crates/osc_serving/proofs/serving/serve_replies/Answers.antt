use Rattle.osc_serving.specs.Serving.{osc_at}
use Rattle.osc_serving.proofs.TurnLemmas.{goes_none, goes_later, did_later}
use Rattle.osc_serving.proofs.serving.serve_replies.Goals as goal

pub turns-init : goal.turns-init
turns-init g c = (
  goes_none (osc_at (g.L.Link.seen c.args.link.now) c.args.sender.now
      c.args.replies.now c.args.over.now),
  c.requires.ended,
)

pub returns-in-Some-reply_turn : goal.returns-in-Some-reply_turn
returns-in-Some-reply_turn g c = did_later (osc_at (g.L.Link.seen c.args.link.now) c.args.sender.now
    c.args.replies.now c.args.over.now) (osc_at (g.L.Link.seen c.turns.link) c.turns.sender
    c.turns.replies c.turns.over) (osc_at (g.L.Link.seen c.reply_turn.new.link)
    c.reply_turn.new.sender c.reply_turn.new.replies c.reply_turn.new.over)
    c.in-Some-reply_turn.ended c.turns.invariant.0 c.in-Some-reply_turn.ensures

pub turns-preserved : goal.turns-preserved
turns-preserved g c =
    let e = c.in_default.ensures in (
      goes_later (osc_at (g.L.Link.seen c.args.link.now) c.args.sender.now c.args.replies.now
          c.args.over.now) (osc_at (g.L.Link.seen c.turns.link) c.turns.sender c.turns.replies
          c.turns.over) (osc_at (g.L.Link.seen c.reply_turn.new.link) c.reply_turn.new.sender
          c.reply_turn.new.replies c.reply_turn.new.over) c.turns.invariant.0 e.0,
      e.1,
    )
