use Rattle.run_laws.proofs.Saves.Entries.{save-of_loop, save-of_session, save-only}
use Rattle.run_laws.proofs.saved_lists.a_save_is_what_its_entry_met.Goals as goal

pub returns-clause-loop_save : goal.returns-clause-loop_save
returns-clause-loop_save c = save-of_loop

pub returns-clause-session_save : goal.returns-clause-session_save
returns-clause-session_save c = save-of_session

pub returns-clause-only : goal.returns-clause-only
returns-clause-only c = save-only
