use Rattle.text_lines.proofs.TargetLemmas.{not_within}
use Rattle.text_lines.proofs.word.number_of.Goals as goal

pub returns-else-number-most-clause-only : goal.returns-else-number-most-clause-only
returns-else-number-most-clause-only c = not_within c.args.word.now c.in_ok-number.number
    c.args.most c.in_ok-number.ensures.found c.if-number-most.false
