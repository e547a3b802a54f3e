use Rattle.run_laws.proofs.Runs.Cuts.{begun-append, run_from-append, run-append}
use Rattle.run_laws.proofs.cut_runs.a_run_goes_on_where_its_first_frames_left_off.Goals as goal

pub returns-clause-begun : goal.returns-clause-begun
returns-clause-begun c = begun-append

pub returns-clause-from : goal.returns-clause-from
returns-clause-from c = run_from-append

pub returns-clause-whole : goal.returns-clause-whole
returns-clause-whole c = run-append
