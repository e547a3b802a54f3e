use Rattle.audio_ends.proofs.TurnLemmas.{takes_more, cause_since}
use Rattle.live_audio.proofs.takes.take_all.Goals as goal

pub returns-clause-takes : goal.returns-clause-takes
returns-clause-takes g c = takes_more _ _ _ _ _ _ c.settle.ensures.takes c.take_free.ensures.takes

pub returns-clause-causes : goal.returns-clause-causes
returns-clause-causes g c =
    let e = c.args.engine.now
    in let a = c.args.ends.now
    in let m = c.settle.new.ends
    in let b = c.take_free.new.ends
    in let k = c.settle.ensures.takes
    in let h = c.take_free.ensures.causes
    in record {
      osc = cause_since 0 e e a m b c.take_free.result.osc k h.osc;
      midi = cause_since 1 e e a m b c.take_free.result.midi k h.midi;
      saver = cause_since 2 e e a m b c.take_free.result.saver k h.saver;
    }
