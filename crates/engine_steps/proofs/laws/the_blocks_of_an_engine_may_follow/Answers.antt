use Rattle.engine_steps.proofs.ReachedLemmas.{blocks_follow}
use Rattle.engine_steps.proofs.SentLemmas.{next_follows}
use Rattle.engine_steps.proofs.laws.the_blocks_of_an_engine_may_follow.Goals as goal

pub returns-clause-next : goal.returns-clause-next
returns-clause-next c = next_follows

pub returns-clause-all : goal.returns-clause-all
returns-clause-all c = blocks_follow
