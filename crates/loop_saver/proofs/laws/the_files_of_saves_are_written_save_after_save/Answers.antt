use Rattle.loop_saver.proofs.WroteLemmas.{saves_wrote, failed_rose}
use Rattle.loop_saver.proofs.laws.the_files_of_saves_are_written_save_after_save.Goals as goal

pub returns-clause-written : goal.returns-clause-written
returns-clause-written g c = saves_wrote g.P.Keeper

pub returns-clause-failed : goal.returns-clause-failed
returns-clause-failed g c = failed_rose g.P.Keeper
