use Rattle.std.proofs.Common.{[], ◌∷◌, ap}
use Rattle.senders.specs.declared.decision.Decision.{Decision}
use Rattle.reply_sending.specs.Answers.{pong_packet, pongs_after}
use Rattle.reply_sending.proofs.PongLemmas.{pongs_one}
use Rattle.reply_sending.proofs.post.answer.Goals as goal

pub returns-in-Ping : goal.returns-in-Ping
returns-in-Ping g c =
    let loops = c.args.sender.now.loops in
    pongs_one (c.args.decision.now ∷ []) (pong_packet loops c.in-Ping.to) (g.L.Link.seen
    c.args.link.now) (g.L.Link.seen c.send_pong.new.link) c.args.sender.now
    c.send_pong.new.sender
    (ap (λ (d : Decision). pongs_after loops (d ∷ [])) c.in-Ping.is) c.send_pong.ensures
