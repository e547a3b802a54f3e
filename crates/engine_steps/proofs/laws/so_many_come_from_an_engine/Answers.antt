use Rattle.engine_steps.proofs.SentLemmas.{replies_few, saves_few, blocks_few}
use Rattle.engine_steps.proofs.laws.so_many_come_from_an_engine.Goals as goal

pub returns-clause-replies : goal.returns-clause-replies
returns-clause-replies c = replies_few

pub returns-clause-saves : goal.returns-clause-saves
returns-clause-saves c = saves_few

pub returns-clause-blocks : goal.returns-clause-blocks
returns-clause-blocks c = blocks_few
