use Rattle.std.proofs.Common.{◌∙◌, sym}
use Rattle.osc_serving.specs.Serving.{osc_at}
use Rattle.osc_serving.proofs.TurnLemmas.{turn_strange, still_ended, replies_go, replies_over, none_taken, some_taken}
use Rattle.osc_serving.proofs.turns.reply_turn.Goals as goal

pub returns-in-Some : goal.returns-in-Some
returns-in-Some g c =
    let t = c.in-Some.ensures c.args.over.now in
    turn_strange (osc_at (g.L.Link.seen c.args.link.now) c.args.sender.now c.args.replies.now
    c.args.over.now) (osc_at (g.L.Link.seen c.send_replies.new.link) c.send_replies.new.sender
    c.send_replies.new.replies c.args.over.now) c.in-Some.reply t.0 t.1

pub returns-then-is_some : goal.returns-then-is_some
returns-then-is_some g c =
    let t = c.in_default.ensures c.args.over.now in
    let told = some_taken _ c.take.result c.args.over.now c.take.new.self (sym c.is_some.ensures ∙
    c.if-is_some.true) c.take.ensures.some in
    replies_over (osc_at (g.L.Link.seen c.args.link.now) c.args.sender.now c.args.replies.now
    c.args.over.now) (g.L.Link.seen c.send_replies.new.link) c.send_replies.new.sender
    c.send_replies.new.replies c.args.over.now c.take.new.self t.0 c.requires.ended
    c.take.ensures.ring told.0 told.1

pub returns : goal.returns
returns g c =
    let t = c.in_default.ensures c.args.over.now in (
      replies_go (osc_at (g.L.Link.seen c.args.link.now) c.args.sender.now c.args.replies.now
          c.args.over.now) (g.L.Link.seen c.send_replies.new.link) c.send_replies.new.sender
          c.send_replies.new.replies c.args.over.now c.take.new.self t.0 c.take.ensures.ring
          (none_taken c.take.result c.args.over.now c.take.new.self (sym c.is_some.ensures ∙
          c.if-is_some.false) c.take.ensures.none),
      still_ended (osc_at (g.L.Link.seen c.args.link.now) c.args.sender.now c.args.replies.now
          c.args.over.now) (osc_at (g.L.Link.seen c.send_replies.new.link) c.send_replies.new.sender
          c.send_replies.new.replies c.args.over.now) t.0 c.requires.ended,
    )
