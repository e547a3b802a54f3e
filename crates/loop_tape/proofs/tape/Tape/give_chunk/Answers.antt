use Rattle.std.proofs.Common.{rules}
use Rattle.loop_tape.proofs.CutLemmas.{given_chunk}
use Rattle.loop_tape.proofs.tape.Tape.give_chunk.Goals as goal

pub returns-in-Some-clause-cut : goal.returns-in-Some-clause-cut
returns-in-Some-clause-cut c =
    given_chunk c.args.self.now _ c.args.pool.now c.give.new.self c.in-Some.chunk c.requires.owns
    (search rules) c.requires.some (search rules) (search rules) (search rules) c.give.ensures
