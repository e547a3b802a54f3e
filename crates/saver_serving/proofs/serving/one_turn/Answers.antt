use Rattle.saver_serving.proofs.ServeLemmas.{put_did, full_did, none_did, block_may, block_did}
use Rattle.saver_serving.proofs.serving.one_turn.Goals as goal

pub returns-in-Ok-clause-did : goal.returns-in-Ok-clause-did
returns-in-Ok-clause-did g c =
    put_did g.P.Keeper c.args.saver.now.rate c.args.saver.now.saving c.args.keeper.now
    c.args.blocks.now c.args.releases.now c.put.new.self c.args.held.now c.in-Some.outcome
    c.in-Some.is c.put.ensures.ring c.in-Ok.ensures.ok.0 c.in-Ok.ensures.ok.1

pub returns-in-Err-clause-did : goal.returns-in-Err-clause-did
returns-in-Err-clause-did g c =
    full_did g.P.Keeper c.args.saver.now.rate c.args.saver.now.saving c.args.keeper.now
    c.args.blocks.now c.args.releases.now c.put.new.self c.args.held.now c.put.ensures.ring
    c.in-Err.ensures.full.1

pub returns-in-None-take_block-clause-did : goal.returns-in-None-take_block-clause-did
returns-in-None-take_block-clause-did g c =
    none_did g.P.Keeper c.args.saver.now.rate c.args.saver.now.saving c.take_block.new.saver.saving
    c.args.keeper.now c.take_block.new.keeper c.args.blocks.now c.take_block.new.blocks
    c.args.releases.now c.args.held.now c.take_block.ensures.ring
    c.in-None-take_block.ensures.takes

pub returns-in-Some-take_block-clause-may : goal.returns-in-Some-take_block-clause-may
returns-in-Some-take_block-clause-may g c =
    block_may g.P.Keeper c.args.saver.now.rate c.args.saver.now.saving c.take_block.new.saver.saving
    c.args.keeper.now c.take_block.new.keeper c.args.blocks.now c.take_block.new.blocks
    c.args.releases.now c.args.held.now c.outcome_of.result c.in-Some-take_block.answer
    c.in-None.is c.outcome_of.ensures c.take_block.ensures.ring
    c.in-Some-take_block.ensures.takes c.requires.may

pub returns-in-Some-take_block-clause-did : goal.returns-in-Some-take_block-clause-did
returns-in-Some-take_block-clause-did g c =
    block_did g.P.Keeper c.args.saver.now.rate c.args.saver.now.saving c.take_block.new.saver.saving
    c.args.keeper.now c.take_block.new.keeper c.args.blocks.now c.take_block.new.blocks
    c.args.releases.now c.args.held.now c.outcome_of.result c.in-Some-take_block.answer
    c.in-None.is c.outcome_of.ensures c.take_block.ensures.ring
    c.in-Some-take_block.ensures.takes
