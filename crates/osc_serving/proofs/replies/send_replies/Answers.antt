use Rattle.std.proofs.Common.{subst}
use Rattle.reply_sending.specs.Posting.{PostedReply}
use Rattle.osc_serving.specs.Serving.{osc_at}
use Rattle.osc_serving.proofs.RepliesLemmas.{took_none, took_reply, took_all, took_strange}
use Rattle.osc_serving.proofs.replies.send_replies.Goals as goal

pub replies-init : goal.replies-init
replies-init g c over = took_none (osc_at (g.L.Link.seen c.args.link.now) c.args.sender.now
    c.args.replies.now over)

pub returns-in_default : goal.returns-in_default
returns-in_default g c over =
    let e = c.in_default.ensures in
    took_all (osc_at (g.L.Link.seen c.args.link.now) c.args.sender.now c.args.replies.now over)
    (g.L.Link.seen c.replies.link) c.replies.sender c.replies.replies c.take.new.self over
    (c.replies.invariant over) e.ring e.none

pub returns-then-not-send_reply : goal.returns-then-not-send_reply
returns-then-not-send_reply g c over =
    let n = c.in-Some-take.ensures.some in
    let l' = g.L.Link.seen c.replies.link in
    let l'' = g.L.Link.seen c.send_reply.new.link in
    let none = subst (PostedReply c.in-Some-take.reply l' l'' c.replies.sender
    c.send_reply.new.sender) c.if-not-send_reply.true c.send_reply.ensures in
    took_strange (osc_at (g.L.Link.seen c.args.link.now) c.args.sender.now c.args.replies.now over)
    l' l'' c.replies.sender c.send_reply.new.sender c.replies.replies c.take.new.self over
    c.in-Some-take.reply (c.replies.invariant over) c.in-Some-take.ensures.ring n.taken n.nones
    none

pub replies-preserved : goal.replies-preserved
replies-preserved g c over =
    let n = c.in-Some-take.ensures.some in
    let l' = g.L.Link.seen c.replies.link in
    let l'' = g.L.Link.seen c.send_reply.new.link in
    let told = subst (PostedReply c.in-Some-take.reply l' l'' c.replies.sender
    c.send_reply.new.sender) c.if-not-send_reply.false c.send_reply.ensures in
    took_reply (osc_at (g.L.Link.seen c.args.link.now) c.args.sender.now c.args.replies.now over) l'
    l'' c.replies.sender c.send_reply.new.sender c.replies.replies c.take.new.self over
    c.in-Some-take.reply (c.replies.invariant over) c.in-Some-take.ensures.ring n.taken n.nones
    told
