use Rattle.std.proofs.Common.{arith}
use Rattle.looper_tracks.proofs.CalmLemmas.{clear_more}
use Rattle.looper_tracks.proofs.calm.calm_frames.Goals as goal

pub loop-k-preserved : goal.loop-k-preserved
loop-k-preserved c = (
  λ p. clear_more _ _ _ _ _ _ _ _ _ p c.loop-k-test.true c.index-tracks-k.is
      (omega (arith, c.min-frames.ensures)) (omega (arith, c.min-frames.ensures))
      (c.loop-k.invariant.0 p) (c.calm_of.ensures.calm p),
  omega (arith, c.min-frames.ensures, c.calm_of.ensures.some),
  omega (arith, c.min-frames.ensures),
)
