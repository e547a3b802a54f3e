use Rattle.std.proofs.Common.{subst}
use Rattle.text_lines.specs.FirstFaults.{IsReason}
use Rattle.journal_text.specs.Journals.{journal_form}
use Rattle.run_files.proofs.reading.journal_in.Goals as goal

pub returns-in-Err-Fault : goal.returns-in-Err-Fault
returns-in-Err-Fault c =
    let first = subst (λ reason. IsReason (journal_form c.args.loops) c.args.bytes.now reason)
    c.in-Err-Fault.field-0-is c.in-Err-Fault.ensures.fault in
    (c.duplicate.ensures, (c.in-Err-Fault.fault.kind, first, c.number.ensures))
