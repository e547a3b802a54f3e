use Rattle.std.proofs.Common.{arith}
use Rattle.looper_engine.proofs.ReadLemmas.{lengths_more}
use Rattle.looper_engine.proofs.saving.all_lengths.Goals as goal

pub loop-index-preserved : goal.loop-index-preserved
loop-index-preserved c =
    lengths_more c.args.looper.now c.loop-index.index c.pinned_length.result _ _
    c.loop-index.invariant c.push.ensures.items c.pinned_length.ensures
    (let less = c.loop-index-test.true in let loops = c.loops-index-end.ensures.value in
    omega arith)
