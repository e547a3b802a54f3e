use Rattle.text_lines.proofs.NumeralLemmas.{no_form, no_text, parsed_is_spelled, none_parsed}
use Rattle.text_lines.proofs.numeral.read_numeral.Goals as goal

pub returns-then-not-is_numeral-clause-only : goal.returns-then-not-is_numeral-clause-only
returns-then-not-is_numeral-clause-only c none = no_form c.args.bytes.now (cc)

pub returns-in_default-clause-only : goal.returns-in_default-clause-only
returns-in_default-clause-only c none = no_text c.args.bytes.now c.in_default.ensures.cases.0

pub returns-in-Ok-parse-clause-found : goal.returns-in-Ok-parse-clause-found
returns-in-Ok-parse-clause-found c =
    parsed_is_spelled c.args.bytes.now c.in-Ok.text.now c.parse.result c.in-Ok-parse.number (cc)
    c.in-Ok.ensures.cases.0 c.parse.ensures.value.0 c.in-Ok-parse.is

pub returns-in-Err-clause-only : goal.returns-in-Err-clause-only
returns-in-Err-clause-only c none number is = none_parsed c.args.bytes.now c.in-Ok.text.now
    c.in-Err.field-0 (cc) c.in-Ok.ensures.cases.0 c.in-Err.ensures.value.0
