use Rattle.std.proofs.Common.{ℕ, []}
use Rattle.event_rings.specs.Ends.{TakeEnd}
use Rattle.osc_serving.specs.Serving.{osc_at}
use Rattle.osc_serving.specs.Turns.{TookReplies}
use Rattle.osc_serving.proofs.replies.send_replies.Given as goal

-- each reply so far was told
abbrev pub invariant-replies : goal.invariant-replies
invariant-replies g l = (over : TakeEnd ℕ) →
    TookReplies [] (osc_at (g.L.Link.seen l.fn.link) l.fn.sender l.fn.replies over) (osc_at
    (g.L.Link.seen l.link) l.sender l.replies over)
