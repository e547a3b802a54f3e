use Rattle.looper_tracks.proofs.SumLemmas.{summing_at}
use Rattle.looper_tracks.proofs.span.play_all.Goals as goal

pub loop-k-preserved : goal.loop-k-preserved
loop-k-preserved c = (
  summing_at _ _ _ _ _ _ _ _ _ _ _ _ _ c.loop-k.invariant.0 c.loop-k-test.true
      c.play.ensures.track c.play.ensures.sums c.play.auto.sums,
  c.play.ensures.within c.loop-k.k c.loop-k.invariant.1,
)
