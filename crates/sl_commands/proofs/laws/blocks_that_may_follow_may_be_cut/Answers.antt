use Rattle.sl_commands.proofs.BlockLemmas.{may_all_follow-append, follows_those_before}
use Rattle.sl_commands.proofs.laws.blocks_that_may_follow_may_be_cut.Goals as goal

pub returns-clause-cut : goal.returns-clause-cut
returns-clause-cut c = may_all_follow-append

pub returns-clause-next : goal.returns-clause-next
returns-clause-next c = follows_those_before
