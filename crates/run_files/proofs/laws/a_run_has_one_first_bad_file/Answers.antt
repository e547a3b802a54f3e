use Rattle.run_files.proofs.RunLemmas.{one_first_bad}
use Rattle.run_files.proofs.laws.a_run_has_one_first_bad_file.Goals as goal

pub returns : goal.returns
returns c = one_first_bad
