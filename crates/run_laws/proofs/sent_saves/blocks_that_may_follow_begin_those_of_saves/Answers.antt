use Rattle.run_laws.proofs.Saves.Prefixes.{blocks_begin_saves}
use Rattle.run_laws.proofs.sent_saves.blocks_that_may_follow_begin_those_of_saves.Goals as goal

pub returns : goal.returns
returns c blocks bound may = blocks_begin_saves bound blocks may
