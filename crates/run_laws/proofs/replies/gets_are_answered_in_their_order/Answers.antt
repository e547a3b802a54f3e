use Rattle.run_laws.proofs.Answers.Gets.{run-gets}
use Rattle.run_laws.proofs.Runs.Sizes.{start-selects}
use Rattle.run_laws.proofs.replies.gets_are_answered_in_their_order.Goals as goal

pub returns-clause-gets : goal.returns-clause-gets
returns-clause-gets c = run-gets

pub returns-clause-start : goal.returns-clause-start
returns-clause-start c = start-selects
