use Rattle.std.proofs.Common.{sym, ◌∙◌, ap}
use Rattle.midi_bindings.specs.Lines.{is_form}
use Rattle.midi_bindings.proofs.FormLemmas.{long_has_no_form}
use Rattle.midi_bindings.proofs.BindingLemmas.{line_of_binding, words_of_binding}
use Rattle.text_lines.specs.Lines.{words_in}
use Rattle.midi_bindings.proofs.line.read_line.Goals as goal

pub returns-in_default-clause-wrong : goal.returns-in_default-clause-wrong
returns-in_default-clause-wrong c =
    long_has_no_form (words_in c.args.line.now) c.in_default.ensures.only

pub returns-in-Some-valid_of-clause-found : goal.returns-in-Some-valid_of-clause-found
returns-in-Some-valid_of-clause-found c =
    let found = c.in-Some-valid_of.ensures.found in (
      line_of_binding c.args.line.now c.in-Some-valid_of.binding
          (sym (c.as_slice.ensures ∙ c.in-Some.ensures.found) ∙ found.0),
      found.1,
    )

pub returns-then-is_form-clause-wrong : goal.returns-then-is_form-clause-wrong
returns-then-is_form-clause-wrong c =
    let words = c.as_slice.ensures ∙ c.in-Some.ensures.found in
    let again = c.as_slice-in-None.ensures ∙ c.in-Some.ensures.found in (
      ap is_form (sym again) ∙ sym c.is_form.ensures ∙ c.if-is_form.true,
      λ b is same. c.in-None.ensures.only b is
          (words ∙ words_of_binding c.args.loops c.args.line.now b c.requires is same),
    )
