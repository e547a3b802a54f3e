use Rattle.run_laws.proofs.Answers.Exact.{start-exact, start-once_each}
use Rattle.run_laws.proofs.Saves.Owners.{run-holds}
use Rattle.run_laws.proofs.replies.each_is_answered_once_where_no_save_is_unanswered.Goals as goal

pub returns-clause-counted : goal.returns-clause-counted
returns-clause-counted c = λ settings chunks initial es input test begins answered_all.
    start-exact test settings chunks initial es input begins
    (run-holds settings chunks initial es input begins) answered_all

pub returns-clause-once : goal.returns-clause-once
returns-clause-once c = λ settings chunks initial es input e q begins answered_all.
    start-once_each settings chunks initial es input e q begins
    (run-holds settings chunks initial es input begins) answered_all
