use Rattle.std.proofs.Common.{subst, [], length, ◌≤◌}
use Rattle.event_rings.specs.Known.{EachFollows}
use Rattle.event_rings.proofs.taker.Taker.taken_in_order.Goals as goal

pub returns-clause-order : goal.returns-clause-order
returns-clause-order g c = subst (λ e. EachFollows g.T.Item.may_follow e.bound [] e.taken)
    c.self.view_is c.self.invariant.1.each

pub returns-clause-few : goal.returns-clause-few
returns-clause-few g c = subst (λ e. length e.taken ≤ e.limit) c.self.view_is c.self.invariant.1.few
