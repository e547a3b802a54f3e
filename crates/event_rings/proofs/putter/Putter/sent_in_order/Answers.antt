use Rattle.std.proofs.Common.{subst, []}
use Rattle.event_rings.specs.Known.{EachFollows}
use Rattle.event_rings.proofs.putter.Putter.sent_in_order.Goals as goal

pub returns : goal.returns
returns g c = subst (λ e. EachFollows g.T.Item.may_follow e.bound [] e.sent) c.self.view_is
    c.self.invariant.1.each
