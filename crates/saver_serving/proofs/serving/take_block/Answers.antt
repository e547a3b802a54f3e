use Rattle.loop_saver.proofs.PlaceLemmas.{follower_comes}
use Rattle.saver_serving.proofs.serving.take_block.Goals as goal

pub accept-requires : goal.accept-requires
accept-requires g c =
    record {
      next = follower_comes c.args.blocks.now.taken c.in-Some.block c.args.blocks.now.bound
          c.requires.come.0 c.args.saver.now.saving c.requires.come.1 c.in-Some.ensures.some.may;
    }
