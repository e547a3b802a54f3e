use Rattle.run_laws.proofs.Runs.Cuts.{run_from-split, run-split, entries-split, stamped_never_fall}
use Rattle.run_laws.proofs.cut_runs.a_run_cut_at_a_frame_is_the_run.Goals as goal

pub returns-clause-from : goal.returns-clause-from
returns-clause-from c = run_from-split

pub returns-clause-whole : goal.returns-clause-whole
returns-clause-whole c = run-split

pub returns-clause-entries : goal.returns-clause-entries
returns-clause-entries c = entries-split

pub returns-clause-stamped : goal.returns-clause-stamped
returns-clause-stamped c = stamped_never_fall
