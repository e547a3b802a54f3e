use Rattle.std.proofs.Common.{subst}
use Rattle.session_file.specs.Sessions.{IsReason}
use Rattle.session_file.proofs.loading.settings_in.Goals as goal

pub returns-in-Err-Fault : goal.returns-in-Err-Fault
returns-in-Err-Fault c =
    let first = subst (λ reason. IsReason c.args.bytes.now reason) c.in-Err-Fault.field-0-is
    c.in-Err-Fault.ensures.fault in
    (c.duplicate.ensures, (c.in-Err-Fault.fault.kind, first, c.number.ensures))
