use Rattle.std.proofs.Common.{subst}
use Rattle.text_lines.specs.FirstFaults.{IsReason}
use Rattle.midi_bindings.specs.Texts.{bindings_form}
use Rattle.live_files.proofs.bound.bindings_in.Goals as goal

pub returns-in-Err-Fault : goal.returns-in-Err-Fault
returns-in-Err-Fault c =
    let first = subst (λ reason. IsReason (bindings_form c.args.loops) c.args.bytes.now reason)
    c.in-Err-Fault.field-0-is c.in-Err-Fault.ensures.fault in
    (c.duplicate.ensures, (c.in-Err-Fault.fault.kind, first, c.number.ensures))
