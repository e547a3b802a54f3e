use Rattle.std.proofs.Common.{sym}
use Rattle.command_words.proofs.WordsLemmas.{spelled_in}
use Rattle.command_words.proofs.values.number_between.Goals as goal

pub returns-then-number-most-clause-value : goal.returns-then-number-most-clause-value
returns-then-number-most-clause-value c =
    sym (spelled_in c.args.least c.args.most c.in-Some.number c.args.word.now
    c.in-Some.ensures.found
    c.if-least-number.true c.if-number-most.true)
