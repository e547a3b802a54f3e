use Rattle.std.proofs.Common.{rules}
use Rattle.loop_tape.proofs.SlotLemmas.{pushed_new}
use Rattle.loop_tape.proofs.tape.Tape.push_chunk.Goals as goal

pub returns-in-Some-clause-pushed : goal.returns-in-Some-clause-pushed
returns-in-Some-clause-pushed c =
    λ _. pushed_new c.args.self.now _ c.args.pool.now c.take.new.self c.write.new.self c.args.frame
    c.in-Some.chunk c.requires.owns (search rules) c.requires.whole c.facts.ensures.pool
    c.in-Some.ensures.store c.in-Some.ensures.all c.in-Some.ensures.free c.in-Some.ensures.taken
    (search rules) c.write.ensures
