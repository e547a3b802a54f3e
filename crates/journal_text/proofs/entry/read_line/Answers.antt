use Rattle.std.proofs.Common.{sym, ◌∙◌, ap}
use Rattle.journal_text.specs.JournalLines.{is_form}
use Rattle.journal_text.proofs.FormLemmas.{long_has_no_form}
use Rattle.journal_text.proofs.EntryLemmas.{line_of_entry, words_of_entry}
use Rattle.text_lines.specs.Lines.{words_in}
use Rattle.journal_text.proofs.entry.read_line.Goals as goal

pub returns-in_default-clause-wrong : goal.returns-in_default-clause-wrong
returns-in_default-clause-wrong c =
    long_has_no_form (words_in c.args.line.now) c.in_default.ensures.only

pub returns-in-Some-entry_of-clause-found : goal.returns-in-Some-entry_of-clause-found
returns-in-Some-entry_of-clause-found c =
    let found = c.in-Some-entry_of.ensures.found in (
      line_of_entry c.args.line.now c.in-Some-entry_of.entry
          (sym (c.as_slice.ensures ∙ c.in-Some.ensures.found) ∙ found.0),
      found.1,
    )

pub returns-then-is_form-clause-wrong : goal.returns-then-is_form-clause-wrong
returns-then-is_form-clause-wrong c =
    let words = c.as_slice.ensures ∙ c.in-Some.ensures.found in
    let again = c.as_slice-in-None.ensures ∙ c.in-Some.ensures.found in (
      ap is_form (sym again) ∙ sym c.is_form.ensures ∙ c.if-is_form.true,
      λ e has same. c.in-None.ensures.only e has
          (words ∙ words_of_entry c.args.loops c.args.line.now e c.requires has same),
    )
