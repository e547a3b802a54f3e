use Rattle.text_lines.proofs.ReadingLemmas.{fault_is_one, text_has_no_fault}
use Rattle.journal_text.specs.Journals.{journal_form}
use Rattle.journal_text.proofs.WrongLemmas.{journals_are_settled}
use Rattle.journal_text.proofs.JournalLemmas.{journal_is_text}
use Rattle.journal_text.proofs.ReaderLemmas.{one_journal}
use Rattle.journal_text.proofs.laws.a_journal_has_one_reading.Goals as goal

pub returns-clause-entries : goal.returns-clause-entries
returns-clause-entries c = one_journal

pub returns-clause-fault : goal.returns-clause-fault
returns-clause-fault c loops bytes line other kind kind_too few = fault_is_one (journal_form loops)
    (journals_are_settled loops few) bytes line other kind kind_too

pub returns-clause-either : goal.returns-clause-either
returns-clause-either c loops bytes entries line kind few is =
    text_has_no_fault (journal_form loops) (journals_are_settled loops few) bytes entries line kind
    (journal_is_text loops bytes entries is)
