use Rattle.engine_steps.proofs.SentLemmas.{only_sends}
use Rattle.engine_steps.proofs.laws.a_sent_block_changes_nothing_else.Goals as goal

pub returns : goal.returns
returns c = only_sends
