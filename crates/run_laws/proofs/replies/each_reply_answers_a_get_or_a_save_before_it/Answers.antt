use Rattle.std.proofs.Common.{ap}
use Rattle.looper_rules.specs.Run.{Ran}
use Rattle.run_laws.proofs.Runs.Places.{run-around}
use Rattle.run_laws.proofs.Answers.Runs.{start-asked}
use Rattle.run_laws.proofs.Runs.Comes.{replies_come, start-answers}
use Rattle.run_laws.proofs.replies.each_reply_answers_a_get_or_a_save_before_it.Goals as goal

pub returns-clause-made : goal.returns-clause-made
returns-clause-made c = λ before e after input l never.
    ap (λ (r : Ran). r.replies) (run-around before e after input l never)

pub returns-clause-comes : goal.returns-clause-comes
returns-clause-comes c = replies_come

pub returns-clause-in_time : goal.returns-clause-in_time
returns-clause-in_time c = start-answers

pub returns-clause-asked : goal.returns-clause-asked
returns-clause-asked c = start-asked
