-- What the reader of a journal answers.
use Rattle.std.proofs.Common.{◌≡◌, ℕ, ◌≤◌, List}
use Rattle.sl_commands.specs.declared.entry.Entry.{Entry}
use Rattle.sl_commands.specs.declared.fault.ReadText.{ReadText}
use Rattle.text_lines.specs.FirstFaults.{IsReason}
use Rattle.text_lines.specs.Taking.{DeniesAll}
use Rattle.text_lines.proofs.FormLemmas.{reason_denies, one_reading}
use Rattle.journal_text.specs.Journals.{journal_form, IsJournal}
use Rattle.journal_text.proofs.WrongLemmas.{journals_are_settled}
use Rattle.journal_text.proofs.JournalLemmas.{journal_is_text}

-- where bytes have a fault they are no journal
pub no_journal : (loops : ℕ) (bytes : List ℕ) (why : ReadText) → loops ≤ 16 →
    IsReason (journal_form loops) bytes why →
    DeniesAll (λ entries. IsJournal loops bytes entries) why
no_journal loops bytes why few =
    reason_denies (journal_form loops) (IsJournal loops bytes) bytes why
    (journals_are_settled loops few) (journal_is_text loops bytes)

-- a journal is that of its entries alone
pub one_journal : (loops : ℕ) (bytes : List ℕ) (entries others : List Entry) → loops ≤ 16 →
    IsJournal loops bytes entries → IsJournal loops bytes others → others ≡ entries
one_journal loops bytes entries others few is =
    one_reading (journal_form loops) (IsJournal loops bytes) bytes entries others
    (journals_are_settled loops few) (journal_is_text loops bytes)
    (journal_is_text loops bytes entries is)
