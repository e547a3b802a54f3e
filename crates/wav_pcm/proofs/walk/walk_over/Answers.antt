use Rattle.std.proofs.Common.{◌-◌, ◌+◌, length, arith}
use Rattle.wav_pcm.proofs.WalkLemmas.{left-stops, left-starts, left-passes}
use Rattle.wav_pcm.proofs.walk.walk_over.Goals as goal

pub returns-in-Stop-clause-value : goal.returns-in-Stop-clause-value
returns-in-Stop-clause-value c =
    left-stops _ (length c.args.at.now - c.loop.counter) _ _ (omega (arith, c.loop-test.true))
    c.in-Stop.ensures.value c.loop.invariant.0

pub returns-in-Data-clause-value : goal.returns-in-Data-clause-value
returns-in-Data-clause-value c =
    left-starts _ (length c.args.at.now - c.loop.counter) _ _ _ (omega (arith, c.loop-test.true))
    c.in-Data.ensures.value c.loop.invariant.0

pub loop-preserved : goal.loop-preserved
loop-preserved c = (
  left-passes _ _ (length c.args.at.now - c.loop.counter)
      (length c.args.at.now - (c.loop.counter + 1)) _ _ _ _ _ (omega (arith, c.loop-test.true))
      c.in-Chunk.ensures.value c.first_of-format.ensures c.loop.invariant.0,
  omega (arith, c.in-Chunk.ensures.within, c.loop.invariant.1),
)
