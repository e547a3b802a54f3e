use Rattle.std.proofs.Common.{sym, ◌∙◌, ap, Some, rules}
use Rattle.std.proofs.lemmas.Int.{to_z-of_z}
use Rattle.std.specs.Int.{w32}
use mir.Val.{SFits, to_z, of_z}
use Rattle.session_file.specs.SessionLines.{is_form}
use Rattle.session_file.proofs.LineLemmas.{value_found, no_value}
use Rattle.session_file.proofs.line.read_value.Goals as goal

pub returns-in-Some-value_of-clause-found : goal.returns-in-Some-value_of-clause-found
returns-in-Some-value_of-clause-found c =
    let fits : SFits w32 c.in-Some-value_of.value = search rules in
    let back = to_z-of_z w32 c.in-Some-value_of.value fits in
    let found = c.in-Some-value_of.ensures.found in
    value_found c.args.line.now c.args.setting c.args.loops c.in-Some-value_of.value
    (to_z w32 (of_z w32 c.in-Some-value_of.value)) back
    (sym (c.as_slice.ensures ∙ c.in-Some.ensures.found) ∙ found.0) found.1

pub returns-then-is_form-clause-wrong : goal.returns-then-is_form-clause-wrong
returns-then-is_form-clause-wrong c =
    let words = c.as_slice.ensures ∙ c.in-Some.ensures.found in
    let again = c.as_slice-in-None.ensures ∙ c.in-Some.ensures.found in (
      ap (is_form (Some c.args.setting)) (sym again) ∙ sym c.is_form.ensures ∙ c.if-is_form.true,
      no_value c.args.line.now _ c.args.setting c.args.loops words c.in-None.ensures.only,
    )
