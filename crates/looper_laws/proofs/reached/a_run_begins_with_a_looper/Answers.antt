use Rattle.looper_laws.proofs.Kept.Starts.{begins, new_begins}
use Rattle.looper_laws.proofs.reached.a_run_begins_with_a_looper.Goals as goal

pub returns-clause-kept : goal.returns-clause-kept
returns-clause-kept c settings chunks lists h = begins settings chunks lists h

pub returns-clause-empty : goal.returns-clause-empty
returns-clause-empty c rate loops chunks rated counted = new_begins rate loops chunks rated counted
