use Rattle.engine_steps.proofs.SentLemmas.{sent_is, sent_ends}
use Rattle.engine_steps.proofs.laws.the_saves_that_ended_are_answered_or_due.Goals as goal

pub returns-clause-sent : goal.returns-clause-sent
returns-clause-sent c = sent_is

pub returns-clause-ends : goal.returns-clause-ends
returns-clause-ends c = sent_ends
