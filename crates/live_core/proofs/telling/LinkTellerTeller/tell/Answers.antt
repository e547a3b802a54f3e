use Rattle.std.proofs.Common.{◌≡◌, List, Some, refl, sym, ap, ◌∙◌}
use Rattle.std.specs.Option.{option_copied}
use Rattle.senders.specs.declared.accepted.Accepted.{Accepted}
use Rattle.reply_sending.specs.Answers.{return_for}
use Rattle.live_core.proofs.TellingLemmas.{tells_one}
use Rattle.live_core.proofs.telling.LinkTellerTeller.tell.Goals as goal

pub returns-in-Some : goal.returns-in-Some
returns-in-Some g c =
    let x = c.args.self.now.account in
    let address : return_for x.tally.accepted c.args.reply ≡ Some c.in-Some.to.now =
    ap (λ (l : List Accepted). return_for l c.args.reply) (sym c.accepted.ensures.value)
    ∙ sym c.return_for.ensures ∙ ap option_copied c.in-Some.is
    in tells_one (g.L.Link.seen c.args.self.now.link) (g.L.Link.seen c.send_to.new.link) x
    (record { tally = x.tally; unsent = c.send_to.new.unsent }) c.args.reply c.in-Some.to.now
    address refl c.send_to.ensures
