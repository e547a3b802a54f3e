use Rattle.sl_commands.specs.declared.fault.ReadText.TheVariants.{Fault}
use Rattle.session_file.proofs.SessionLemmas.{session_is_one, reason_denies}
use Rattle.session_file.proofs.session.read_session.Goals as goal

pub returns-in-Ok-clause-one : goal.returns-in-Ok-clause-one
returns-in-Ok-clause-one c other is =
    session_is_one c.args.bytes.now c.in-Ok.settings other c.in-Ok.ensures.found is

pub returns-in-Err-clause-only : goal.returns-in-Err-clause-only
returns-in-Err-clause-only c =
    reason_denies c.args.bytes.now (Fault c.in-Err.fault) c.in-Err.ensures.fault
