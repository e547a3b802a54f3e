use Rattle.std.proofs.Common.{length, ◌≡◌, ◌∙◌, sym, ap, subst, refl, false, [], ◌∷◌, ◌++◌, List}
use Rattle.senders.specs.declared.decision.Decision.{Decision}
use Rattle.senders.specs.declared.decision.Decision.TheVariants as decisions
use Rattle.senders.specs.Hearing.{faulty, Hears}
use Rattle.senders.specs.Senders.{OscSenderOf}
use Rattle.senders.proofs.HearingLemmas.{no_full, hears_one}
use Rattle.senders.proofs.osc.OscSender.faulty.Goals as goal

pub returns-clause-heard : goal.returns-clause-heard
returns-clause-heard c =
    let made : c.of.result ≡ decisions.Packet c.args.fault ∷ [] =
    c.of.ensures ∙ c.push_reserved.ensures.items ∙ ap (λ (l : List Decision). l ++ decisions.Packet
    c.args.fault ∷ []) c.in-Ok.ensures.items in
    let heard = hears_one c.self.inside.ring.capacity false (faulty c.args.fault)
    c.self.inside.account.tally c.refuse_packet.new.self (decisions.Packet c.args.fault) refl
    c.refuse_packet.ensures (no_full c.self.inside.ring.capacity (length
    c.self.inside.account.tally.accepted)) in
    subst (λ (ds : List Decision). Hears c.args.self.now.ring.capacity (faulty c.args.fault ∷ [])
    c.args.self.now.account.tally c.refuse_packet.new.self ds) (sym made)
    (subst (λ (s : OscSenderOf). Hears s.ring.capacity (faulty c.args.fault ∷ []) s.account.tally
    c.refuse_packet.new.self (decisions.Packet c.args.fault ∷ [])) c.self.view_is heard)
