use Rattle.run_laws.proofs.Runs.Places.{saves_are_kept, begun_saves_are_kept}
use Rattle.run_laws.proofs.saved_lists.no_save_changes_later.Goals as goal

pub returns-clause-kept : goal.returns-clause-kept
returns-clause-kept c = saves_are_kept

pub returns-clause-begun : goal.returns-clause-begun
returns-clause-begun c = begun_saves_are_kept
