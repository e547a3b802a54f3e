use Rattle.looper_laws.proofs.Kept.Opening.{records_keeps, starts_keeps}
use Rattle.looper_laws.proofs.Kept.Closing.{closed_keeps}
use Rattle.looper_laws.proofs.Kept.Verbs.{acts_keeps}
use Rattle.looper_laws.proofs.Kept.Presses.{given_keeps, waiting_acts_keeps}
use Rattle.looper_laws.proofs.reached.a_loop_of_addresses_is_kept.Goals as goal

pub returns-clause-recorded : goal.returns-clause-recorded
returns-clause-recorded c a l h closed = records_keeps a.reach h closed

pub returns-clause-copied : goal.returns-clause-copied
returns-clause-copied c a mode l h playable way = starts_keeps a.reach mode way h playable

pub returns-clause-closing : goal.returns-clause-closing
returns-clause-closing c a l h writing = closed_keeps writing h

pub returns-clause-acts : goal.returns-clause-acts
returns-clause-acts c verb a l h = acts_keeps verb a.reach h

pub returns-clause-given : goal.returns-clause-given
returns-clause-given c verb a l h = given_keeps verb a.reach h

pub returns-clause-waited : goal.returns-clause-waited
returns-clause-waited c a l h = waiting_acts_keeps a.reach h
