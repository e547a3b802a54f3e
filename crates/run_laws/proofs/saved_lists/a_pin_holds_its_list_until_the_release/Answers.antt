use Rattle.run_laws.proofs.Saves.Pins.{loop_save-pins, session_save-pins, framed-pins, applied-stays, applied-goes}
use Rattle.run_laws.proofs.saved_lists.a_pin_holds_its_list_until_the_release.Goals as goal

pub returns-clause-loop_save : goal.returns-clause-loop_save
returns-clause-loop_save c = loop_save-pins

pub returns-clause-session_save : goal.returns-clause-session_save
returns-clause-session_save c = session_save-pins

pub returns-clause-frame : goal.returns-clause-frame
returns-clause-frame c = framed-pins

pub returns-clause-entry : goal.returns-clause-entry
returns-clause-entry c = applied-stays

pub returns-clause-release : goal.returns-clause-release
returns-clause-release c = applied-goes
