use Rattle.std.proofs.Common.{[]}
use Rattle.settling.proofs.FeedLemmas.{fed_come, goes_fed, ended_outcome, ended_owed, ended_fed}
use Rattle.settling.proofs.feeding.feed.Goals as goal

pub accept-requires : goal.accept-requires
accept-requires g c =
    record {
      next = fed_come c.args.engine.now c.args.saver.now.saving c.args.block.now c.requires.may;
    }

pub returns-in-Continue-clause-fed : goal.returns-in-Continue-clause-fed
returns-in-Continue-clause-fed g c = (
  [],
  c.telling_composes.ensures.none c.args.teller.now,
  goes_fed g.P.Keeper c.args.saver.now.rate c.args.block.now c.args.engine.now
      c.args.saver.now.saving c.accept.new.self.saving c.args.keeper.now c.accept.new.keeper
      c.in-Continue.ensures.accepted,
)

pub release-requires-clause-outcome : goal.release-requires-clause-outcome
release-requires-clause-outcome g c =
    ended_outcome g.P.Keeper c.args.saver.now.rate c.args.block.now c.args.saver.now.saving
    c.accept.new.self.saving c.args.keeper.now c.accept.new.keeper c.in-Finished.field-0
    c.in-Finished.outcome c.in-Finished.ensures.accepted

pub release-requires-clause-owed : goal.release-requires-clause-owed
release-requires-clause-owed g c =
    ended_owed g.P.Keeper c.args.saver.now.rate c.args.block.now c.args.engine.now
    c.args.saver.now.saving c.accept.new.self.saving c.args.keeper.now c.accept.new.keeper
    c.in-Finished.field-0 c.in-Finished.outcome c.requires.may c.in-Finished.ensures.accepted

pub returns-in-Finished-clause-fed : goal.returns-in-Finished-clause-fed
returns-in-Finished-clause-fed g c =
    let gave = c.release.ensures.goes in (
      gave.0,
      gave.1,
      ended_fed g.P.Keeper c.args.saver.now.rate c.args.block.now c.args.engine.now
          c.release.new.engine c.args.saver.now.saving c.accept.new.self.saving c.args.keeper.now
          c.accept.new.keeper c.in-Finished.field-0 c.in-Finished.outcome gave.0
          c.in-Finished.ensures.accepted gave.2,
    )
