use Rattle.run_files.proofs.RunLemmas.{one_run}
use Rattle.run_files.proofs.laws.a_run_has_one_reading.Goals as goal

pub returns : goal.returns
returns c = one_run
