use Rattle.std.proofs.Common.{arith}
use Rattle.session_file.proofs.StripLemmas.{not_within}
use Rattle.session_file.proofs.line.number_of.Goals as goal

pub returns-else-number-most-clause-only : goal.returns-else-number-most-clause-only
returns-else-number-most-clause-only c =
    not_within c.args.word.now c.in_ok-number.number c.args.most (omega (arith, c.ranges.most.fits))
    c.in_ok-number.ensures.found c.if-number-most.false
