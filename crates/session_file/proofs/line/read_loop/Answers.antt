use Rattle.std.proofs.Common.{sym, ◌∙◌, ap, None}
use Rattle.text_lines.specs.Lines.{words_in}
use Rattle.session_file.specs.declared.line.Line.TheVariants.{Loop}
use Rattle.session_file.specs.SessionLines.{is_form}
use Rattle.session_file.proofs.LineLemmas.{long_has_no_form, line_of_its_words, no_loop}
use Rattle.session_file.proofs.line.read_loop.Goals as goal

pub returns-in_default-clause-wrong : goal.returns-in_default-clause-wrong
returns-in_default-clause-wrong c =
    long_has_no_form None (words_in c.args.line.now) c.in_default.ensures.only

pub returns-in-Some-loop_of-clause-found : goal.returns-in-Some-loop_of-clause-found
returns-in-Some-loop_of-clause-found c =
    let found = c.in-Some-loop_of.ensures.found in (
      line_of_its_words c.args.line.now (Loop c.in-Some-loop_of.read.0 c.in-Some-loop_of.read.1)
          (sym (c.as_slice.ensures ∙ c.in-Some.ensures.found) ∙ found.0),
      found.1,
      found.2,
    )

pub returns-then-is_form-clause-wrong : goal.returns-then-is_form-clause-wrong
returns-then-is_form-clause-wrong c =
    let words = c.as_slice.ensures ∙ c.in-Some.ensures.found in
    let again = c.as_slice-in-None.ensures ∙ c.in-Some.ensures.found in (
      ap (is_form None) (sym again) ∙ sym c.is_form.ensures ∙ c.if-is_form.true,
      no_loop c.args.line.now _ words c.in-None.ensures.only,
    )
