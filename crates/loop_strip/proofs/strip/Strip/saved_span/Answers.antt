use Rattle.std.proofs.Common.{◌∙◌, ap, take, drop, length}
use Rattle.loop_strip.proofs.StripLemmas.{pinned_at}
use Rattle.loop_strip.proofs.strip.Strip.saved_span.Goals as goal

pub returns : goal.returns
returns c = c.saved_span.ensures ∙ ap (λ xs. take (length c.args.out.now) (drop c.args.place xs))
    (pinned_at c.self.inside.parts c.args.self.now c.args.pool.now c.self.view_is)
