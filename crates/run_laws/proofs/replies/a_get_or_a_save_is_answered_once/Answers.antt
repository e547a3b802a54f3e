use Rattle.run_laws.proofs.Answers.Runs.{start-count}
use Rattle.run_laws.proofs.Answers.Once.{start-once}
use Rattle.run_laws.proofs.replies.a_get_or_a_save_is_answered_once.Goals as goal

pub returns-clause-once : goal.returns-clause-once
returns-clause-once c = start-once

pub returns-clause-counted : goal.returns-clause-counted
returns-clause-counted c = λ settings chunks initial es input test.
    start-count test settings chunks initial es input
