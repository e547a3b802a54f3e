use Rattle.text_lines.proofs.ReadingLemmas.{fault_is_one, text_has_no_fault}
use Rattle.session_file.specs.Sessions.{session_form}
use Rattle.session_file.specs.SessionLines.{lines_of}
use Rattle.session_file.proofs.WrongLemmas.{sessions_are_settled}
use Rattle.session_file.proofs.SessionLemmas.{session_is_text, session_is_one}
use Rattle.session_file.proofs.laws.a_session_has_one_reading.Goals as goal

pub returns-clause-settings : goal.returns-clause-settings
returns-clause-settings c = session_is_one

pub returns-clause-fault : goal.returns-clause-fault
returns-clause-fault c bytes line other kind kind_too =
    fault_is_one session_form sessions_are_settled bytes line other kind kind_too

pub returns-clause-either : goal.returns-clause-either
returns-clause-either c bytes s line kind is = text_has_no_fault session_form sessions_are_settled
    bytes (lines_of s) line kind (session_is_text bytes s is)
