use Rattle.text_lines.proofs.WordLemmas.{integer_spelled, integer_form, integer_is_one}
use Rattle.text_lines.proofs.laws.integers_have_one_spelling.Goals as goal

pub returns-clause-found : goal.returns-clause-found
returns-clause-found c = integer_spelled

pub returns-clause-only : goal.returns-clause-only
returns-clause-only c = integer_form

pub returns-clause-one : goal.returns-clause-one
returns-clause-one c = integer_is_one
