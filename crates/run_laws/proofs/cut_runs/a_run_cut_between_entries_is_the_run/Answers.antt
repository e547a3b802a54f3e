use Rattle.run_laws.proofs.Runs.Cuts.{run_from-cut, run-cut, run-more}
use Rattle.run_laws.proofs.cut_runs.a_run_cut_between_entries_is_the_run.Goals as goal

pub returns-clause-from : goal.returns-clause-from
returns-clause-from c = run_from-cut

pub returns-clause-whole : goal.returns-clause-whole
returns-clause-whole c = run-cut

pub returns-clause-last : goal.returns-clause-last
returns-clause-last c = run-more
