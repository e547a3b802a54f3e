use Rattle.live_goes.proofs.StandLemmas.{owed_due, owed_room}
use Rattle.live_goes.proofs.laws.what_is_owed_is_due.Goals as goal

pub returns-clause-due : goal.returns-clause-due
returns-clause-due c = owed_due

pub returns-clause-room : goal.returns-clause-room
returns-clause-room c = owed_room
