use Rattle.std.proofs.Common.{◌≡◌, ◌∙◌, sym, ap, subst, length, ◌<◌}
use Rattle.std.specs.Prelude.{◌||◌}
use Rattle.std.specs.Vec.{vec_capacity}
use Rattle.senders.specs.Commands.{is_quit}
use Rattle.senders.specs.Tallies.{TallyOf, IsTally}
use Rattle.senders.specs.TallyFields.{tally_of}
use Rattle.senders.proofs.HearingLemmas.{tally_accepts}
use Rattle.senders.proofs.tally.Tally.accept.Goals as goal
use Rattle.senders.proofs.tally.Tally.accept.Goals.{then-self, else-self}

pub invariant_of-self : goal.invariant_of-self
invariant_of-self c =
    let i = c.self.inside in
    let t : TallyOf = tally_of i.quota i.accepted.items i.ring_full i.session_full i.ended
    i.packet_faults i.path_faults i.last.items in
    let quits : c.if-self.self ≡ (i.quit || is_quit c.args.command) = elim c.if-self.branch [
      | then-self w ↦ w.self-is ∙ w.if-self.true ∙ sym (ap (λ q. q || is_quit c.args.command)
          w.if-self.true)
      | else-self w ↦ w.self-is ∙ w.is_quit-self-inside.ensures ∙ sym (ap (λ q. q || is_quit
          c.args.command) w.if-self.false)
    ] in
    let room = subst (λ (u : TallyOf). length u.accepted < u.quota) (sym c.self.view_is)
    c.requires.room in
    let more = tally_accepts t i.quit c.if-self.self (vec_capacity i.accepted) (vec_capacity
    c.push_reserved.new.self) i.last.capacity c.args.command c.args.answer c.self.invariant room
    quits c.push_reserved.ensures.capacity in
    subst (λ items. IsTally (tally_of i.quota items i.ring_full i.session_full i.ended
    i.packet_faults i.path_faults i.last.items) c.if-self.self (vec_capacity
    c.push_reserved.new.self) i.last.capacity) (sym c.push_reserved.ensures.items) more
