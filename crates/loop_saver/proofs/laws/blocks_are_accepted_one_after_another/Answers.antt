use Rattle.loop_saver.proofs.KeepLemmas.{one_kept, keeps_then, are_outcomes}
use Rattle.loop_saver.proofs.laws.blocks_are_accepted_one_after_another.Goals as goal

pub returns-clause-one : goal.returns-clause-one
returns-clause-one g c = one_kept g.P.Keeper

pub returns-clause-more : goal.returns-clause-more
returns-clause-more g c = keeps_then g.P.Keeper

pub returns-clause-outcomes : goal.returns-clause-outcomes
returns-clause-outcomes g c = are_outcomes g.P.Keeper
