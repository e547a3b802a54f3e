use Rattle.looper_engine.specs.Beginnings.{beginning_of}
use Rattle.live_joining.specs.Causes.{lacked_memory}
use Rattle.live_session.proofs.MetLemmas.{same_rings}
use Rattle.live_core.specs.Sessions.{session_of, session_back}
use Rattle.live_core.proofs.session.run_session.Goals as goal

pub run-back-requires-clause-audio : goal.run-back-requires-clause-audio
run-back-requires-clause-audio g c κs within =
    (c.start-parts.ensures c.args.setup.now c.args.initial.now c.args.bindings c.args.channels
    c.in-Ok.ensures.prepared).audio

pub run-back-requires-clause-saver : goal.run-back-requires-clause-saver
run-back-requires-clause-saver g c κs within =
    (c.start-parts.ensures c.args.setup.now c.args.initial.now c.args.bindings c.args.channels
    c.in-Ok.ensures.prepared).saver

pub close-requires : goal.close-requires
close-requires g c =
    let started = c.start-parts.ensures c.args.setup.now c.args.initial.now c.args.bindings
    c.args.channels c.in-Ok.ensures.prepared in
    let parts = c.start-parts.result in
    let back = c.run-back.result in
    same_rings g.P.Keeper (beginning_of c.args.setup.now c.args.initial.now) c.args.bindings
    (session_of g.A.Source g.O.Sink g.L.Link g.M.Source parts.audio parts.osc parts.midi
    parts.saver)
    (session_back g.A.Source g.O.Sink g.L.Link g.M.Source back) back.three.two.audio.state
    (lacked_memory back.three.two.osc.ended)
    (c.run-back.ensures.ran (beginning_of c.args.setup.now c.args.initial.now) c.args.bindings
    started.made started.rate)

pub returns-clause-closed : goal.returns-clause-closed
returns-clause-closed g c =
    let started = c.start-parts.ensures c.args.setup.now c.args.initial.now c.args.bindings
    c.args.channels c.in-Ok.ensures.prepared in
    record {
      parts = c.start-parts.result;
      back = c.run-back.result;
      started = started;
      ran = c.run-back.ensures.ran (beginning_of c.args.setup.now c.args.initial.now)
          c.args.bindings started.made started.rate;
      all = c.run-back.ensures.all;
      closed = c.close.ensures;
    }
