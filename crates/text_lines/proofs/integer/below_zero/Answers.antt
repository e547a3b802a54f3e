use Rattle.std.proofs.Common.{arith}
use Rattle.text_lines.proofs.IntegerLemmas.{too_small}
use Rattle.text_lines.proofs.integer.below_zero.Goals.{else-size-ge1-via-then-size-ge1+else-size-le2147483648, else-size-ge1-via-else-size-ge1}
use Rattle.text_lines.proofs.integer.below_zero.Goals as goal

pub returns-else-size-ge1-clause-only : goal.returns-else-size-ge1-clause-only
returns-else-size-ge1-clause-only c number small is =
    too_small c.args.digits.now c.in_ok-size.size number c.in_ok-size.ensures.found
    (λ low high. elim c.else-size-ge1.branch [
      | else-size-ge1-via-then-size-ge1+else-size-le2147483648 w ↦ omega arith
      | else-size-ge1-via-else-size-ge1 w ↦ omega arith
    ])
    small is
