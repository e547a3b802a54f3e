use Rattle.std.proofs.Common.{List, sym, subst, refl, [], ◌∷◌, take}
use Rattle.senders.specs.declared.decision.Decision.{Decision}
use Rattle.reply_sending.specs.Posting.{PostedPongs}
use Rattle.reply_sending.proofs.PongLemmas.{pongs_none, pongs_joined, take_next}
use Rattle.reply_sending.proofs.post.send_pongs.Goals as goal

pub decisions-init : goal.decisions-init
decisions-init g c = pongs_none [] (g.L.Link.seen c.args.link.now) c.args.sender.now refl

pub decisions-preserved : goal.decisions-preserved
decisions-preserved g c =
    let l = g.L.Link.seen c.args.link.now in
    let l' = g.L.Link.seen c.decisions.link in
    let l'' = g.L.Link.seen c.answer.new.link in
    let d = c.index-decisions-place.result in
    let s = c.args.sender.now in
    let s'' = c.answer.new.sender in
    subst (λ (ds : List Decision). PostedPongs ds l l'' s s'')
    (sym (take_next c.args.decisions.now c.decisions.place d c.decisions-test.true
    c.index-decisions-place.is))
    (pongs_joined (take c.decisions.place c.args.decisions.now) (d ∷ []) l l' l'' s
    c.decisions.sender s'' c.decisions.invariant c.answer.ensures)
