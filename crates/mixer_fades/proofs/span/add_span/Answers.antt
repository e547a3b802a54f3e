use Rattle.std.proofs.Common.{◌+◌, arith}
use Rattle.std.proofs.lemmas.Grind.{common_steps}
use Rattle.mixer_fades.proofs.SumLemmas.{done_more, done_all}
use Rattle.mixer_fades.proofs.span.add_span.Goals as goal

pub loop-k-preserved : goal.loop-k-preserved
loop-k-preserved c = record {
  sums = grind (arith, common_steps);
  gain = grind (arith, common_steps);
  left = grind (arith, common_steps);
  done = λ givers. done_more givers c.loop-k.k c.loop-k.sums c.args.sums.now c.with_frame-sum.result
      c.index-sums-k.result (omega arith) c.loop-k.invariant.left c.with_frame-sum.ensures.within
      (c.loop-k.invariant.done givers);
}

pub returns-clause-within : goal.returns-clause-within
returns-clause-within c = λ givers all. done_all (givers + 1) c.loop-k.k c.loop-k.sums (omega arith)
    (c.loop-k.invariant.done givers all)
