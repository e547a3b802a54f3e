use Rattle.std.proofs.Common.{[], ◌∷◌, ◌++◌}
use Rattle.settling.specs.Steps.{feeding}
use Rattle.settling.proofs.FeedLemmas.{next_feeds, next_served, given_fed}
use Rattle.settling.proofs.feeding.feed_next.Goals as goal

pub feed-requires : goal.feed-requires
feed-requires g c =
    record {
      may = next_feeds c.args.engine.now c.block_sent.new.self c.args.saver.now.saving
          c.args.block.now c.requires.served.0 c.requires.served.1 c.requires.next
          c.block_sent.ensures.sent;
    }

pub returns-clause-fed : goal.returns-clause-fed
returns-clause-fed g c =
    let gave = c.feed.ensures.fed in (
      gave.0,
      gave.1,
      given_fed g.P.Keeper c.args.saver.now.rate c.args.block.now c.args.engine.now gave.0
          (feeding c.block_sent.new.self c.args.saver.now.saving c.args.keeper.now)
          (feeding c.feed.new.engine c.feed.new.saver.saving c.feed.new.keeper) c.requires.next
          c.block_sent.ensures.sent gave.2,
    )

pub returns-clause-served : goal.returns-clause-served
returns-clause-served g c =
    let gave = c.feed.ensures.fed in
    let now = feeding c.feed.new.engine c.feed.new.saver.saving c.feed.new.keeper in (
      c.requires.served.0 ++ c.args.block.now ∷ [],
      next_served g.P.Keeper c.args.saver.now.rate c.args.engine.now c.args.block.now
          c.requires.served.0 gave.0 c.args.saver.now.saving c.args.keeper.now now
          c.requires.served.1
          c.requires.next
          (given_fed g.P.Keeper c.args.saver.now.rate c.args.block.now c.args.engine.now gave.0
          (feeding c.block_sent.new.self c.args.saver.now.saving c.args.keeper.now) now
          c.requires.next
          c.block_sent.ensures.sent gave.2),
    )
