use Rattle.run_laws.proofs.Saves.Ends.{ends-append, save-ends, all-ends, before_last-ends}
use Rattle.run_laws.proofs.sent_saves.a_save_ends_with_its_last_block.Goals as goal

pub returns-clause-append : goal.returns-clause-append
returns-clause-append c = ends-append

pub returns-clause-save : goal.returns-clause-save
returns-clause-save c = save-ends

pub returns-clause-all : goal.returns-clause-all
returns-clause-all c = all-ends

pub returns-clause-before : goal.returns-clause-before
returns-clause-before c = before_last-ends
