use Rattle.std.proofs.Common.{◌∙◌, sym}
use Rattle.osc_serving.specs.Serving.{osc_at}
use Rattle.osc_serving.proofs.TurnLemmas.{turn_strange, turn_at_end, turn_failed, turn_no_memory, turn_goes, turn_over, none_taken, some_taken}
use Rattle.osc_serving.proofs.turns.link_turn.Goals as goal

pub returns-in-Some : goal.returns-in-Some
returns-in-Some g c =
    let t = c.in-Some.ensures c.args.over.now in
    turn_strange (osc_at (g.L.Link.seen c.args.link.now) c.args.sender.now c.args.replies.now
    c.args.over.now) (osc_at (g.L.Link.seen c.send_replies.new.link) c.send_replies.new.sender
    c.send_replies.new.replies c.args.over.now) c.in-Some.reply t.0 t.1

pub returns-in-AtEnd : goal.returns-in-AtEnd
returns-in-AtEnd g c =
    let t = c.in_default.ensures c.args.over.now in
    let e = c.in-AtEnd.ensures in (
      turn_at_end (osc_at (g.L.Link.seen c.args.link.now) c.args.sender.now c.args.replies.now
          c.args.over.now) (g.L.Link.seen c.send_replies.new.link)
          (g.L.Link.seen c.receive.new.link)
          c.send_replies.new.sender c.receive.new.sender c.send_replies.new.replies c.args.over.now
          t.0 e.0 e.1,
      e.2,
    )

pub returns-in-Failed : goal.returns-in-Failed
returns-in-Failed g c =
    let t = c.in_default.ensures c.args.over.now in
    let e = c.in-Failed.ensures in
    turn_failed (osc_at (g.L.Link.seen c.args.link.now) c.args.sender.now c.args.replies.now
    c.args.over.now) (g.L.Link.seen c.send_replies.new.link) (g.L.Link.seen c.receive.new.link)
    c.send_replies.new.sender c.receive.new.sender c.send_replies.new.replies c.args.over.now
    t.0 e.0 e.1

pub returns-in-NoMemory : goal.returns-in-NoMemory
returns-in-NoMemory g c =
    let t = c.in_default.ensures c.args.over.now in
    let e = c.in-NoMemory.ensures in
    turn_no_memory (osc_at (g.L.Link.seen c.args.link.now) c.args.sender.now c.args.replies.now
    c.args.over.now) (g.L.Link.seen c.send_replies.new.link) (g.L.Link.seen c.receive.new.link)
    c.send_replies.new.sender c.receive.new.sender c.send_replies.new.replies c.args.over.now
    e.0 t.0 t.1 e.1 e.2

pub returns-then-is_some : goal.returns-then-is_some
returns-then-is_some g c =
    let t = c.in_default.ensures c.args.over.now in
    let told = some_taken _ c.take.result c.args.over.now c.take.new.self (sym c.is_some.ensures ∙
    c.if-is_some.true) c.take.ensures.some in
    turn_over (osc_at (g.L.Link.seen c.args.link.now) c.args.sender.now c.args.replies.now
    c.args.over.now) (g.L.Link.seen c.send_replies.new.link) (g.L.Link.seen c.receive.new.link)
    c.send_replies.new.sender c.receive.new.sender c.send_replies.new.replies c.args.over.now
    c.take.new.self t.0 t.1 c.in-Once.ensures c.take.ensures.ring told.0 told.1

pub returns : goal.returns
returns g c =
    let t = c.in_default.ensures c.args.over.now in
    turn_goes (osc_at (g.L.Link.seen c.args.link.now) c.args.sender.now c.args.replies.now
    c.args.over.now) (g.L.Link.seen c.send_replies.new.link) (g.L.Link.seen c.receive.new.link)
    c.send_replies.new.sender c.receive.new.sender c.send_replies.new.replies c.args.over.now
    c.take.new.self t.0 t.1 c.in-Once.ensures c.take.ensures.ring
    (none_taken c.take.result c.args.over.now c.take.new.self (sym c.is_some.ensures ∙
    c.if-is_some.false) c.take.ensures.none)
