use Rattle.release_laws.proofs.CountLemmas.{at_most, each_behind, more_saves}
use Rattle.release_laws.proofs.releases.each_release_answers_one_where_as_many_are_answered.Goals as goal

pub returns-clause-most : goal.returns-clause-most
returns-clause-most c = λ settings chunks initial es input begins never.
    at_most settings chunks initial begins es never input

pub returns-clause-each : goal.returns-clause-each
returns-clause-each c = λ settings chunks initial before e after input begins never full of_saver.
    each_behind settings chunks initial begins before e after input never full of_saver

pub returns-clause-more : goal.returns-clause-more
returns-clause-more c = λ settings chunks initial before e after input begins never full of_saver.
    more_saves settings chunks initial begins before e after input never full of_saver
