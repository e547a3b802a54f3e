use Rattle.std.proofs.Common.{refl, ap}
use Rattle.loop_saver.specs.Savers.{SaverOf}
use Rattle.live_core.proofs.PreparedLemmas.{may_go_on, osc_tells, midi_tells, saver_tells, may_serve, is_made}
use Rattle.live_core.proofs.starting.start.Goals as goal

pub returns : goal.returns
returns g c s initial bindings channels h =
    let p = c.args.prepared in
    let d = c.args.devices in
    record {
      made = is_made s initial bindings channels p h d.keeper (g.A.Source.seen d.audio)
          (g.O.Sink.faults d.out) (g.O.Sink.held d.out) (g.L.Link.seen d.link) (g.M.Source.seen
          d.midi);
      audio = record {
        may = may_go_on s initial bindings channels p h (g.A.Source.seen d.audio) (g.O.Sink.faults
            d.out)
            (g.O.Sink.held d.out);
        osc = osc_tells s initial bindings channels p h;
        midi = midi_tells s initial bindings channels p h;
        saver = saver_tells s initial bindings channels p h;
      };
      saver = record { may = may_serve s initial bindings channels p h d.keeper; free = refl };
      rate = ap (λ (x : SaverOf). x.rate) h.arranged.saver;
      channels_are = h.arranged.channels_are;
      devices = refl;
    }
