use Rattle.std.proofs.Common.{◌≡◌, ◌∙◌, sym, ap, subst, ℕ, List}
use Rattle.sl_commands.specs.declared.entry.Entry.{Entry}
use Rattle.text_lines.specs.FirstFaults.{IsText}
use Rattle.journal_text.specs.Journals.{journal_form}
use Rattle.journal_text.proofs.JournalLemmas.{text_is_journal}
use Rattle.journal_text.proofs.ReaderLemmas.{no_journal, one_journal}
use Rattle.journal_text.proofs.reader.read_journal.Goals as goal

pub returns-in-Ok-clause-found : goal.returns-in-Ok-clause-found
returns-in-Ok-clause-found c =
    let same : c.into_entries.result ≡ c.in-Ok.lines.1 =
    c.into_entries.ensures ∙ ap (λ (p : ℕ × List Entry). p.1) c.lines.view_is in
    text_is_journal c.args.loops c.args.bytes.now c.into_entries.result
    (subst (λ es. IsText (journal_form c.args.loops) c.args.bytes.now es) (sym same)
    c.in-Ok.ensures.found)

pub returns-in-Ok-clause-one : goal.returns-in-Ok-clause-one
returns-in-Ok-clause-one c =
    let same : c.into_entries.result ≡ c.in-Ok.lines.1 =
    c.into_entries.ensures ∙ ap (λ (p : ℕ × List Entry). p.1) c.lines.view_is in
    λ others. one_journal c.args.loops c.args.bytes.now c.into_entries.result others c.requires
    (text_is_journal c.args.loops c.args.bytes.now c.into_entries.result
    (subst (λ es. IsText (journal_form c.args.loops) c.args.bytes.now es) (sym same)
    c.in-Ok.ensures.found))

pub returns-in-Err-clause-only : goal.returns-in-Err-clause-only
returns-in-Err-clause-only c =
    no_journal c.args.loops c.args.bytes.now c.in-Err.why c.requires c.in-Err.ensures.fault
