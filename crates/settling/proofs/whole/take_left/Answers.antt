use Rattle.std.proofs.Common.{◌++◌}
use Rattle.settling.proofs.SettleLemmas.{left_midi, left_outcomes, left_held, took_left}
use Rattle.settling.proofs.whole.take_left.Goals as goal

pub settle_commands-requires-2-clause-may : goal.settle_commands-requires-2-clause-may
settle_commands-requires-2-clause-may g c =
    let osc = c.settle_commands.ensures.left in
    left_midi c.args.engine.now c.args.osc.now c.args.midi.now c.args.saver.now c.args.outcome
    c.requires.may osc.0 c.settle_commands.new.engine osc.2 osc.1 osc.4

pub settle_outcomes-requires : goal.settle_outcomes-requires
settle_outcomes-requires g c =
    let osc = c.settle_commands.ensures.left in
    let midi = c.settle_commands-2.ensures.left in
    record {
      may = left_outcomes c.args.engine.now c.args.osc.now c.args.midi.now c.args.saver.now
          c.args.outcome c.requires.may osc.0 midi.0 c.settle_commands.new.engine
          c.settle_commands-2.new.engine osc.2 midi.2 osc.1 midi.1 osc.4 midi.4;
    }

pub release_held-requires-clause-owed : goal.release_held-requires-clause-owed
release_held-requires-clause-owed g c =
    let osc = c.settle_commands.ensures.left in
    let midi = c.settle_commands-2.ensures.left in
    let outcomes = c.settle_outcomes.ensures.left in
    left_held c.args.engine.now c.args.osc.now c.args.midi.now c.args.saver.now c.args.outcome
    c.requires.may osc.0 midi.0 outcomes.0 c.settle_commands.new.engine
    c.settle_commands-2.new.engine c.settle_outcomes.new.engine osc.2 midi.2 outcomes.2 osc.1
    midi.1 outcomes.1 osc.4 midi.4 outcomes.4

pub returns : goal.returns
returns g c =
    let osc = c.settle_commands.ensures.left in
    let midi = c.settle_commands-2.ensures.left in
    let outcomes = c.settle_outcomes.ensures.left in
    let held = c.release_held.ensures.goes in
    let more = c.telling_composes.ensures.more in
    record {
      left = (
        (osc.2 ++ midi.2) ++ (outcomes.2 ++ held.0),
        more c.args.teller.now c.settle_commands-2.new.teller c.release_held.new.teller
            (osc.2 ++ midi.2) (outcomes.2 ++ held.0)
            (more c.args.teller.now c.settle_commands.new.teller c.settle_commands-2.new.teller
            osc.2
            midi.2 osc.3 midi.3)
            (more c.settle_commands-2.new.teller c.settle_outcomes.new.teller
            c.release_held.new.teller outcomes.2 held.0 outcomes.3 held.1),
        took_left c.args.engine.now c.args.osc.now c.args.midi.now c.args.saver.now
            c.args.outcome c.requires.may osc.0 midi.0 outcomes.0 c.settle_commands.new.engine
            c.settle_commands-2.new.engine c.settle_outcomes.new.engine c.release_held.new.engine
            osc.2 midi.2 outcomes.2 held.0 osc.1 midi.1 outcomes.1 osc.4 midi.4 outcomes.4 held.2,
      );
    }
