use Rattle.engine_steps.proofs.DueLemmas.{due-command, waiting-command}
use Rattle.engine_steps.proofs.laws.a_command_leaves_what_is_due.Goals as goal

pub returns-clause-due : goal.returns-clause-due
returns-clause-due c = due-command

pub returns-clause-waiting : goal.returns-clause-waiting
returns-clause-waiting c = waiting-command
