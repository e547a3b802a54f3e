use Rattle.std.proofs.Common.{rules}
use Rattle.loop_tape.proofs.CutLemmas.{cut_then, cut_shorter_to}
use Rattle.loop_tape.proofs.tape.Tape.cut_to.Goals as goal

pub loop-self-preserved : goal.loop-self-preserved
loop-self-preserved c = record {
  cut = cut_then c.args.self.now c.loop-self.self c.give_chunk.new.self c.args.pool.now
      c.loop-self.pool c.give_chunk.new.pool (search rules) c.loop-self.invariant.cut
      c.give_chunk.ensures.cut;
  within = search (rules, c.give_chunk.ensures.len);
}

pub returns-clause-cut : goal.returns-clause-cut
returns-clause-cut c =
    cut_shorter_to c.args.self.now c.loop-self.self _ c.args.pool.now c.loop-self.pool
    c.loop-self.invariant.cut (search rules) (search rules) c.loop-self.invariant.within
