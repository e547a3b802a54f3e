use Rattle.text_lines.proofs.IntegerLemmas.{too_great}
use Rattle.text_lines.proofs.integer.at_least_zero.Goals as goal

pub returns-else-size-le2147483647-clause-only : goal.returns-else-size-le2147483647-clause-only
returns-else-size-le2147483647-clause-only c number small is =
    too_great c.args.digits.now c.in_ok-size.size number c.in_ok-size.ensures.found
    c.if-size-le2147483647.false small is
