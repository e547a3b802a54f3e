use Rattle.looper_laws.proofs.Kept.Opening.{records_keeps, starts_keeps}
use Rattle.looper_laws.proofs.reached.an_opening_keeps_the_loop.Goals as goal

pub returns-clause-recorded : goal.returns-clause-recorded
returns-clause-recorded c a l h closed = records_keeps a.reach h closed

pub returns-clause-copied : goal.returns-clause-copied
returns-clause-copied c a mode l h playable way = starts_keeps a.reach mode way h playable
