use Rattle.loop_saver.proofs.PlaceLemmas.{comes_behind, follower_comes}
use Rattle.loop_saver.proofs.laws.a_saver_is_where_its_blocks_lead.Goals as goal

pub returns-clause-behind : goal.returns-clause-behind
returns-clause-behind g c = comes_behind g.P.Keeper

pub returns-clause-next : goal.returns-clause-next
returns-clause-next g c = follower_comes
