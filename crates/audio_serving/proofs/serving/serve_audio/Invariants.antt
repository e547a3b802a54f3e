use Rattle.std.proofs.Common.{◌≡◌}
use Rattle.audio_serving.proofs.ServeLemmas.{GoneOn}
use Rattle.audio_serving.proofs.serving.serve_audio.Given as goal

abbrev pub invariant-turns : goal.invariant-turns
invariant-turns g l =
    GoneOn
    (record {
      engine = l.fn.engine;
      ends = l.fn.ends;
      source = g.A.Source.seen l.fn.source;
      sink = record { faults = g.O.Sink.faults l.fn.sink; held = g.O.Sink.held l.fn.sink };
    })
    (record {
      engine = l.engine;
      ends = l.ends;
      source = g.A.Source.seen l.source;
      sink = record { faults = g.O.Sink.faults l.sink; held = g.O.Sink.held l.sink };
    })
