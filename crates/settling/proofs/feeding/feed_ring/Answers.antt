use Rattle.std.proofs.Common.{refl, sym, ◌∙◌, subst, [], ◌∷◌, ◌++◌}
use Rattle.settling.specs.Standing.{IsServed}
use Rattle.settling.specs.Steps.{Fed, feeding}
use Rattle.settling.proofs.TakeLemmas.{drained_none, drained_more, drained_all}
use Rattle.settling.proofs.FeedLemmas.{fed_none, fed_then, drained_feeds, drained_served}
use Rattle.settling.proofs.feeding.feed_ring.Goals as goal

pub draining-init : goal.draining-init
draining-init g c =
    record {
      rate = refl;
      reads = refl;
      rest = [];
      drained = drained_none c.args.met.now;
      served = c.requires.served;
      told = [];
      tells = c.telling_composes.ensures.none c.args.teller.now;
      fed = fed_none g.P.Keeper c.args.saver.now.rate
          (feeding c.args.engine.now c.args.saver.now.saving c.args.keeper.now);
    }

pub feed-requires : goal.feed-requires
feed-requires g c =
    record {
      may = drained_feeds c.in-Some-drain.block c.draining.engine c.draining.saver.saving
          c.draining.met c.drain.new.self c.draining.invariant.served c.drain.ensures.ring
          c.in-Some-drain.ensures.some;
    }

pub draining-preserved : goal.draining-preserved
draining-preserved g c =
    let i = c.draining.invariant in
    let block = c.in-Some-drain.block in
    let rate = c.args.saver.now.rate in
    let start = feeding c.args.engine.now c.args.saver.now.saving c.args.keeper.now in
    let before = feeding c.draining.engine c.draining.saver.saving c.draining.keeper in
    let now = feeding c.feed.new.engine c.feed.new.saver.saving c.feed.new.keeper in
    let gave = c.feed.ensures.fed in
    let fed : Fed g.P.Keeper rate (block ∷ []) [] gave.0 before now =
    subst (λ r. Fed g.P.Keeper r (block ∷ []) [] gave.0 before now) i.rate gave.2 in
    record {
      rate = c.feed.ensures.rate ∙ i.rate;
      reads = c.feed.ensures.reads ∙ i.reads;
      rest = i.rest ++ block ∷ [];
      drained = drained_more _ c.args.met.now c.draining.met c.drain.new.self i.rest block i.drained
          c.drain.ensures.ring c.in-Some-drain.ensures.some;
      served = drained_served g.P.Keeper rate block gave.0 before now c.draining.met
          c.drain.new.self i.served c.drain.ensures.ring c.in-Some-drain.ensures.some fed;
      told = i.told ++ gave.0;
      tells = c.telling_composes.ensures.more c.args.teller.now c.draining.teller
          c.feed.new.teller i.told gave.0 i.tells gave.1;
      fed = fed_then g.P.Keeper rate i.rest (block ∷ []) [] [] i.told gave.0 start before now i.fed
          fed;
    }

pub returns-in_default-clause-left : goal.returns-in_default-clause-left
returns-in_default-clause-left g c =
    let i = c.draining.invariant in
    let left = drained_all c.args.met.now c.draining.met c.drain.new.self i.rest i.drained
    c.drain.ensures.ring c.in_default.ensures.none in (
      i.rest,
      left,
      subst (λ l. IsServed c.draining.engine c.draining.saver.saving l c.args.met.now.sent)
          (i.drained.taken ∙ sym left)
          (subst (λ l. IsServed c.draining.engine c.draining.saver.saving c.draining.met.taken l)
          i.drained.sent i.served),
      i.told,
      i.tells,
      i.fed,
    )
