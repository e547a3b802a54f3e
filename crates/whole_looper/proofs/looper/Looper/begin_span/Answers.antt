use Rattle.std.proofs.Common.{take, sym, subst}
use Rattle.whole_looper.specs.Spans.{IsSpan}
use Rattle.whole_looper.proofs.CalmLemmas.{span_as_none, nothing_met}
use Rattle.whole_looper.proofs.looper.Looper.begin_span.Goals as goal

pub returns-then-any_waits-clause-span : goal.returns-then-any_waits-clause-span
returns-then-any_waits-clause-span c =
    subst (λ l. IsSpan c.args.frame (take c.span_length.result c.args.input.now) l)
    (sym c.span_length.ensures.same) c.span_length.ensures.span

pub returns-clause-met : goal.returns-clause-met
returns-clause-met c =
    nothing_met _ _ _ _ _ _ _ c.self.view_is (c.any_waits.ensures c.if-any_waits.false)

pub returns-clause-span : goal.returns-clause-span
returns-clause-span c =
    span_as_none _ _ _ _ _ _ _ _ c.self.view_is c.quiet_frames.ensures.quiet
    (c.any_waits.ensures c.if-any_waits.false)
