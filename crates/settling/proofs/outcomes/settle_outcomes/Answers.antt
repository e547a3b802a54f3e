use Rattle.std.proofs.Common.{[], ◌∷◌, ◌++◌}
use Rattle.settling.specs.Steps.{more_outcomes}
use Rattle.settling.proofs.TakeLemmas.{drained_none, drained_more, drained_all, by_none, by_then, drained_owed, release_next}
use Rattle.settling.proofs.outcomes.settle_outcomes.Goals as goal

pub draining-init : goal.draining-init
draining-init g c =
    record {
      rest = [];
      drained = drained_none c.args.met.now;
      may = c.requires.may;
      told = [];
      tells = c.telling_composes.ensures.none c.args.teller.now;
      goes = by_none c.args.engine.now;
    }

pub release-requires : goal.release-requires
release-requires g c =
    record {
      outcome = c.in-Some-drain.ensures.some.may;
      owed = drained_owed _ c.in-Some-drain.outcome c.draining.engine c.draining.met
          c.drain.new.self c.draining.invariant.may c.drain.ensures.ring
          c.in-Some-drain.ensures.some;
    }

pub draining-preserved : goal.draining-preserved
draining-preserved g c =
    let i = c.draining.invariant in
    let outcome = c.in-Some-drain.outcome in
    let gave = c.release.ensures.goes in
    record {
      rest = i.rest ++ outcome ∷ [];
      drained = drained_more _ c.args.met.now c.draining.met c.drain.new.self i.rest outcome
          i.drained c.drain.ensures.ring c.in-Some-drain.ensures.some;
      may = release_next _ outcome c.draining.engine c.release.new.engine c.draining.met
          c.drain.new.self gave.0 i.may c.drain.ensures.ring c.in-Some-drain.ensures.some gave.2;
      told = i.told ++ gave.0;
      tells = c.telling_composes.ensures.more c.args.teller.now c.draining.teller
          c.release.new.teller i.told gave.0 i.tells gave.1;
      goes = by_then c.args.engine.now c.draining.engine c.release.new.engine
          (more_outcomes i.rest) (more_outcomes (outcome ∷ [])) i.told gave.0 i.goes gave.2;
    }

pub returns-in_default : goal.returns-in_default
returns-in_default g c =
    let i = c.draining.invariant in
    record {
      left = (
        i.rest,
        drained_all c.args.met.now c.draining.met c.drain.new.self i.rest i.drained
            c.drain.ensures.ring c.in_default.ensures.none,
        i.told,
        i.tells,
        i.goes,
      );
    }
