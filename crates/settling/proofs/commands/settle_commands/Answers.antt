use Rattle.std.proofs.Common.{[], ◌∷◌, ◌++◌, subst}
use Rattle.settling.specs.Steps.{GoesBy, more_commands}
use Rattle.settling.proofs.TakeLemmas.{drained_none, drained_more, drained_all, no_commands, commands_more, by_none, by_then, command_room, command_next}
use Rattle.settling.proofs.commands.settle_commands.Goals as goal

pub draining-init : goal.draining-init
draining-init g c =
    let e = c.args.engine.now in
    record {
      rest = [];
      drained = drained_none c.args.met.now;
      may = c.requires.may;
      told = [];
      tells = c.telling_composes.ensures.none c.args.teller.now;
      goes = subst (λ m. GoesBy m [] e e) (no_commands c.args.sender) (by_none e);
    }

pub give-requires-clause-room : goal.give-requires-clause-room
give-requires-clause-room g c =
    command_room _ c.args.sender c.in-Some-drain.command c.draining.engine c.draining.met
    c.drain.new.self c.requires.two c.draining.invariant.may c.drain.ensures.ring
    c.in-Some-drain.ensures.some

pub draining-preserved : goal.draining-preserved
draining-preserved g c =
    let i = c.draining.invariant in
    let command = c.in-Some-drain.command in
    let gave = c.give.ensures.goes in
    record {
      rest = i.rest ++ command ∷ [];
      drained = drained_more _ c.args.met.now c.draining.met c.drain.new.self i.rest command
          i.drained c.drain.ensures.ring c.in-Some-drain.ensures.some;
      may = command_next _ c.args.sender command c.draining.engine c.give.new.engine
          c.draining.met c.drain.new.self gave.0 c.requires.two i.may c.drain.ensures.ring
          c.in-Some-drain.ensures.some gave.2;
      told = i.told ++ gave.0;
      tells = c.telling_composes.ensures.more c.args.teller.now c.draining.teller
          c.give.new.teller i.told gave.0 i.tells gave.1;
      goes = subst (λ m. GoesBy m (i.told ++ gave.0) c.args.engine.now c.give.new.engine)
          (commands_more c.args.sender i.rest (command ∷ []))
          (by_then c.args.engine.now c.draining.engine c.give.new.engine
          (more_commands c.args.sender i.rest) (more_commands c.args.sender (command ∷ []))
          i.told gave.0 i.goes gave.2);
    }

pub returns-in_default : goal.returns-in_default
returns-in_default g c =
    let i = c.draining.invariant in
    record {
      left = (
        i.rest,
        drained_all c.args.met.now c.draining.met c.drain.new.self i.rest i.drained
            c.drain.ensures.ring c.in_default.ensures.none,
        i.told,
        i.tells,
        i.goes,
      );
    }
