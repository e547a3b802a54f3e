use Rattle.std.proofs.Common.{sym, ap, ◌∙◌, ◌<◌, length, subst}
use Rattle.crossbeam_queue.specs.Passes.{ruled_capacity}
use Rattle.event_rings.proofs.RuleLemmas.{puts, put_learns, putter_more}
use Rattle.event_rings.proofs.putter.Putter.put.Goals as goal

pub push_as-requires-clause-rule : goal.push_as-requires-clause-rule
push_as-requires-clause-rule g c =
    let putter = c.self.invariant.1 in
    let room = subst (λ e. length e.sent < e.limit) (sym c.self.view_is) c.requires.room in
    let may = subst (λ e. g.T.Item.may_follow e.sent c.args.item e.bound) (sym c.self.view_is)
    c.requires.may in
    let capacity = putter.capacity_is ∙ ap (λ q. ruled_capacity q) (sym c.deref.ensures) in
    (puts _ _ _ _ _ putter.puts putter.takes capacity room may, put_learns _ _ _ putter.puts)

pub invariant_of-self : goal.invariant_of-self
invariant_of-self g c =
    let told = c.in-Ok.ensures in
    let may = subst (λ e. g.T.Item.may_follow e.sent c.args.item e.bound) (sym c.self.view_is)
    c.requires.may in (
      (told.queue.0 ∙ c.self.invariant.0.0, told.queue.2 ∙ c.self.invariant.0.1),
      putter_more _ _ _ _ _ c.self.invariant.1 may told.rule,
    )
