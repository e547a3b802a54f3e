use Rattle.run_files.proofs.RunLemmas.{run_or_bad, run_or_limit}
use Rattle.run_files.proofs.laws.a_run_is_read_or_refused.Goals as goal

pub returns-clause-file : goal.returns-clause-file
returns-clause-file c files n t name kind line named is =
    run_or_bad files n t name kind line named is.holds

pub returns-clause-limit : goal.returns-clause-limit
returns-clause-limit c = run_or_limit

pub returns-clause-order : goal.returns-clause-order
returns-clause-order c files n name kind line named beyond =
    run_or_bad files n beyond.contents name kind line named beyond.holds
