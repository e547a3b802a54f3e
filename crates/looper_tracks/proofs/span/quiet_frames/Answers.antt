use Rattle.std.proofs.Common.{arith}
use Rattle.looper_tracks.proofs.SpanLemmas.{quiet_more}
use Rattle.looper_tracks.proofs.span.quiet_frames.Goals as goal

pub loop-k-preserved : goal.loop-k-preserved
loop-k-preserved c = (
  λ p. quiet_more _ _ _ _ _ _ _ p c.loop-k-test.true c.index-tracks-k.is
      (omega (arith, c.min-frames.ensures)) (omega (arith, c.min-frames.ensures))
      (c.loop-k.invariant.0 p) (c.quiet_over.ensures.quiet p),
  omega (arith, c.min-frames.ensures),
  omega (arith, c.min-frames.ensures),
)
