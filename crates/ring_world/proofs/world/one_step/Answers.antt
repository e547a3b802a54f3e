use Rattle.ring_world.specs.declared.step.Step.TheVariants.{TakeOsc, TakeMidi, TakeSaver}
use Rattle.ring_world.proofs.WorldLemmas.{kept_other}
use Rattle.ring_world.proofs.world.one_step.Goals as goal

pub returns-in-TakeOsc-clause-kept : goal.returns-in-TakeOsc-clause-kept
returns-in-TakeOsc-clause-kept g c =
    kept_other g.P.Keeper c.args.keeper.now c.args.saver.now c.take_osc.result TakeOsc
    c.args.number c.args.lists.now c.take_osc.new.lists tt c.take_osc.ensures

pub returns-in-TakeMidi-clause-kept : goal.returns-in-TakeMidi-clause-kept
returns-in-TakeMidi-clause-kept g c =
    kept_other g.P.Keeper c.args.keeper.now c.args.saver.now c.take_midi.result TakeMidi
    c.args.number c.args.lists.now c.take_midi.new.lists tt c.take_midi.ensures

pub returns-in-TakeSaver-clause-kept : goal.returns-in-TakeSaver-clause-kept
returns-in-TakeSaver-clause-kept g c =
    kept_other g.P.Keeper c.args.keeper.now c.args.saver.now c.take_saver.result TakeSaver
    c.args.number c.args.lists.now c.take_saver.new.lists tt c.take_saver.ensures
