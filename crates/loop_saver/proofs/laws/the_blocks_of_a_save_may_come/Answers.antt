use Rattle.loop_saver.proofs.ComeLemmas.{save_blocks_come}
use Rattle.loop_saver.proofs.DueLemmas.{save_over}
use Rattle.loop_saver.proofs.laws.the_blocks_of_a_save_may_come.Goals as goal

pub returns-clause-come : goal.returns-clause-come
returns-clause-come c = save_blocks_come

pub returns-clause-over : goal.returns-clause-over
returns-clause-over c = save_over
