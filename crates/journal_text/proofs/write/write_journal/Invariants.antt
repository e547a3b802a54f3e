-- What is written, and the lines that are left, are the journal.
use Rattle.std.proofs.Common.{◌≡◌, ◌++◌, ◌∷◌, [], drop}
use Rattle.std.specs.String.{string_bytes}
use Rattle.text_lines.specs.Lines.{lines_then, end_word}
use Rattle.journal_text.specs.JournalLines.{entry_line}
use Rattle.journal_text.specs.Journals.{journal_text}
use Rattle.journal_text.proofs.write.write_journal.Given as goal

abbrev pub invariant-entries : goal.invariant-entries
invariant-entries l = string_bytes l.out ++ lines_then entry_line (drop l.place l.entries)
    (end_word ++ (10 ∷ [])) ≡ journal_text l.entries
