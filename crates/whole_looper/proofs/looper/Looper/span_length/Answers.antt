use Rattle.std.proofs.Common.{◌∙◌}
use Rattle.whole_looper.proofs.CalmLemmas.{span_as_none, span_as_timed}
use Rattle.whole_looper.proofs.looper.Looper.span_length.Goals as goal

pub returns-then-not-any_waits-clause-span : goal.returns-then-not-any_waits-clause-span
returns-then-not-any_waits-clause-span c =
    span_as_none _ _ _ _ _ _ _ _ c.self.view_is c.quiet_frames.ensures.quiet
    (c.any_waits.ensures c.if-not-any_waits.true)

pub returns-clause-span : goal.returns-clause-span
returns-clause-span c =
    span_as_timed _ _ _ _ _ _ _ _ _ _ _ c.self.view_is (c.deref.ensures.value
    ∙ c.faces.ensures.faces) c.quiet_frames-2.ensures.within c.quiet_frames-2.ensures.quiet
    c.calm_frames-calm.ensures.time c.calm_frames-calm.ensures.calm
