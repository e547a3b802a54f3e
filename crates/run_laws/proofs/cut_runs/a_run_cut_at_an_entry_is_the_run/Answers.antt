use Rattle.run_laws.proofs.Runs.Places.{run-around}
use Rattle.run_laws.proofs.cut_runs.a_run_cut_at_an_entry_is_the_run.Goals as goal

pub returns : goal.returns
returns c = record { whole = run-around }
