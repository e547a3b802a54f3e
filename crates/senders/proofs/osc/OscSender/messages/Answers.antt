use Rattle.std.proofs.Common.{◌≡◌, ◌∙◌, ◌+◌, sym, ap, subst, refl, [], ◌∷◌, ◌++◌, List, arith, take, map}
use Rattle.senders.specs.Hearing.{message_input, Hears}
use Rattle.senders.proofs.PacketLemmas.{hears_next, stays_joined, take_next}
use Rattle.senders.proofs.osc.OscSender.messages.Goals as goal

pub messages-preserved : goal.messages-preserved
messages-preserved g c =
    let i = c.messages.invariant in
    let m = c.index-messages-place.result in
    let d = c.message-decision.result in
    let new = c.message-decision.new.self.account.tally in
    let room = c.push_reserved.ensures.capacity in
    let len = c.push_reserved.ensures.len in
    let had = i.2 in
    let was = i.3 in
    let one = subst (λ k. Hears k (message_input c.args.self.now.loops c.args.from m ∷ [])
    c.messages.self.account.tally new (d ∷ [])) i.0.ring.capacity
    (subst (λ k. Hears c.messages.self.ring.capacity (message_input k c.args.from m ∷ [])
    c.messages.self.account.tally new (d ∷ [])) i.0.loops c.message-decision.ensures.heard) in (
      stays_joined c.args.self.now c.messages.self c.message-decision.new.self i.0
          c.message-decision.ensures.stays,
      hears_next c.args.self.now.ring.capacity c.args.self.now.loops c.args.from
          c.args.messages.now c.messages.place m c.args.self.now.account.tally
          c.messages.self.account.tally new c.messages.decisions.items
          c.push_reserved.new.self.items
          d
          (take_next c.args.messages.now c.messages.place m c.messages-test.true
          c.index-messages-place.is) i.1 one c.push_reserved.ensures.items,
      omega arith,
      omega arith,
    )
