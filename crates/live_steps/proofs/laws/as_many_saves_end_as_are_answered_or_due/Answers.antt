use Rattle.live_steps.proofs.RoomLemmas.{ended, none_owed, all_answered}
use Rattle.live_steps.proofs.laws.as_many_saves_end_as_are_answered_or_due.Goals as goal

pub returns-clause-ends : goal.returns-clause-ends
returns-clause-ends c = ended

pub returns-clause-owed : goal.returns-clause-owed
returns-clause-owed c = none_owed

pub returns-clause-all : goal.returns-clause-all
returns-clause-all c = all_answered
