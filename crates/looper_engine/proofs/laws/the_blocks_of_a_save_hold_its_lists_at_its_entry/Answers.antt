use Rattle.std.proofs.Common.{sym}
use Rattle.looper_engine.proofs.StretchLemmas.{left-took, left-made, saves_met}
use Rattle.looper_engine.proofs.laws.the_blocks_of_a_save_hold_its_lists_at_its_entry.Goals as goal

pub returns-clause-made : goal.returns-clause-made
returns-clause-made c = left-made

pub returns-clause-taken : goal.returns-clause-taken
returns-clause-taken c = left-took

pub returns-clause-met : goal.returns-clause-met
returns-clause-met c = saves_met

pub returns-clause-sent : goal.returns-clause-sent
returns-clause-sent c = λ b s e h. sym h.blocks
