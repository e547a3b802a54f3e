use Rattle.looper_laws.proofs.Kept.Constants.{same_entry, same_frame, same_entered, same_begun, same_run}
use Rattle.looper_laws.proofs.reached.a_run_keeps_its_rate_and_its_chunks.Goals as goal

pub returns-clause-entry : goal.returns-clause-entry
returns-clause-entry c frame e l = same_entry frame e l

pub returns-clause-frame : goal.returns-clause-frame
returns-clause-frame c frame x l = same_frame frame x l

pub returns-clause-entered : goal.returns-clause-entered
returns-clause-entered c frame es l = same_entered frame es l

pub returns-clause-begun : goal.returns-clause-begun
returns-clause-begun c frame es xs l = same_begun frame es xs l

pub returns-clause-run : goal.returns-clause-run
returns-clause-run c frame es xs l = same_run frame es xs l
