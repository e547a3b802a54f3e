use Rattle.run_laws.proofs.Saves.BlockCounts.{length-parts_of, length-blocks_of_save, length-blocks_for_all}
use Rattle.run_laws.proofs.sent_saves.a_save_has_so_many_blocks_at_most.Goals as goal

pub returns-clause-parts : goal.returns-clause-parts
returns-clause-parts c save index list = length-parts_of save index list

pub returns-clause-save : goal.returns-clause-save
returns-clause-save c s made = length-blocks_of_save s made

pub returns-clause-all : goal.returns-clause-all
returns-clause-all c saves made = length-blocks_for_all saves made
