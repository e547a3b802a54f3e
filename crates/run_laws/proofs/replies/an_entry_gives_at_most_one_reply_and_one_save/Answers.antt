use Rattle.run_laws.proofs.Runs.Counts.{begun-few, run_from-few}
use Rattle.run_laws.proofs.Runs.Askers.{run_from-saves}
use Rattle.run_laws.proofs.replies.an_entry_gives_at_most_one_reply_and_one_save.Goals as goal

pub returns-clause-replies : goal.returns-clause-replies
returns-clause-replies c frame es input l = (run_from-few frame es input l).0

pub returns-clause-saves : goal.returns-clause-saves
returns-clause-saves c frame es input l = (run_from-few frame es input l).1

pub returns-clause-begun_replies : goal.returns-clause-begun_replies
returns-clause-begun_replies c frame es input l = (begun-few frame es input l).0

pub returns-clause-begun_saves : goal.returns-clause-begun_saves
returns-clause-begun_saves c frame es input l = (begun-few frame es input l).1

pub returns-clause-players : goal.returns-clause-players
returns-clause-players c frame es input l = run_from-saves frame es input l
