use Rattle.loop_saver.proofs.DueLemmas.{files_due}
use Rattle.loop_saver.proofs.laws.the_files_of_a_save_are_due_at_its_blocks.Goals as goal

pub returns : goal.returns
returns c = files_due
