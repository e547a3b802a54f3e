use Rattle.text_lines.proofs.NumeralLemmas.{is_spelled, has_form}
use Rattle.text_lines.proofs.IntegerLemmas.{numeral_is_one}
use Rattle.text_lines.proofs.laws.numbers_have_one_spelling.Goals as goal

pub returns-clause-found : goal.returns-clause-found
returns-clause-found c = is_spelled

pub returns-clause-only : goal.returns-clause-only
returns-clause-only c = has_form

pub returns-clause-one : goal.returns-clause-one
returns-clause-one c = numeral_is_one
