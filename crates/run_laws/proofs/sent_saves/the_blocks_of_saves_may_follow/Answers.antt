use Rattle.run_laws.proofs.Saves.Blocks.{blocks_for_all_follow, place_of-blocks_for_all}
use Rattle.run_laws.proofs.sent_saves.the_blocks_of_saves_may_follow.Goals as goal

pub returns-clause-follow : goal.returns-clause-follow
returns-clause-follow c blocks first bound saves are due few =
    blocks_for_all_follow blocks first bound saves are due few

pub returns-clause-place : goal.returns-clause-place
returns-clause-place c blocks first saves are due =
    place_of-blocks_for_all blocks first saves are due
