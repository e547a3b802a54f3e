use Rattle.looper_laws.proofs.Kept.Verbs.{acts_keeps}
use Rattle.looper_laws.proofs.Kept.Presses.{given_keeps, waiting_acts_keeps}
use Rattle.looper_laws.proofs.reached.a_verb_keeps_the_loop.Goals as goal

pub returns-clause-acts : goal.returns-clause-acts
returns-clause-acts c verb a l h = acts_keeps verb a.reach h

pub returns-clause-given : goal.returns-clause-given
returns-clause-given c verb a l h = given_keeps verb a.reach h

pub returns-clause-waited : goal.returns-clause-waited
returns-clause-waited c a l h = waiting_acts_keeps a.reach h
