use Rattle.run_laws.proofs.Runs.Cuts.{begun-more}
use Rattle.run_laws.proofs.cut_runs.entries_to_come_change_nothing_before.Goals as goal

pub returns : goal.returns
returns c = record { left = begun-more }
