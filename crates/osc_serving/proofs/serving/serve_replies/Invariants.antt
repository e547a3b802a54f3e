use Rattle.std.proofs.Common.{◌≡◌, true}
use Rattle.osc_serving.specs.Serving.{osc_at}
use Rattle.osc_serving.specs.Turns.{GoesOn}
use Rattle.osc_serving.proofs.serving.serve_replies.Given as goal

-- serving went on so far, and the link is at its end
abbrev pub invariant-turns : goal.invariant-turns
invariant-turns g l =
    GoesOn (osc_at (g.L.Link.seen l.fn.link) l.fn.sender l.fn.replies l.fn.over) (osc_at
    (g.L.Link.seen l.link) l.sender l.replies l.over)
    × ((g.L.Link.seen l.link).ended ≡ true)
