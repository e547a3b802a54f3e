use Rattle.std.proofs.Common.{arith}
use Rattle.audio_ends.proofs.TurnLemmas.{takes_more, cause_since, cause_stays, held_by}
use Rattle.live_audio.proofs.takes.take_free.Goals as goal

pub returns-in-Held-midi : goal.returns-in-Held-midi
returns-in-Held-midi g c =
    let e = c.args.engine.now
    in let a = c.args.ends.now
    in let m = c.take_commands-osc.new.ends
    in let b = c.take_commands-midi.new.ends
    in let first = c.take_commands-osc.ensures
    in let next = c.take_commands-midi.ensures
    in let midi = cause_since 1 e c.take_commands-osc.new.engine a m b
    c.take_commands-midi.result first.takes next.cause.0
    in record {
      takes = takes_more _ _ _ _ _ _ first.takes next.takes;
      causes = record {
        osc = cause_stays 0 e a m b c.take_commands-osc.result next.takes.stays.on first.cause.0;
        midi = midi;
        saver = held_by 2 1 e a b c.take_commands-midi.result c.in-Held-midi.is midi;
      };
    }

pub returns : goal.returns
returns g c =
    let e = c.args.engine.now
    in let a = c.args.ends.now
    in let m = c.take_commands-osc.new.ends
    in let n = c.take_commands-midi.new.ends
    in let b = c.take_outcomes-saver.new.ends
    in let first = c.take_commands-osc.ensures
    in let next = c.take_commands-midi.ensures
    in let last = c.take_outcomes-saver.ensures
    in let two = takes_more _ _ _ _ _ _ first.takes next.takes
    in let rest = takes_more _ _ _ _ _ _ next.takes last.takes
    in record {
      takes = takes_more _ _ _ _ _ _ two last.takes;
      causes = record {
        osc = cause_stays 0 e a m b c.take_commands-osc.result rest.stays.on first.cause.0;
        midi = cause_stays 1 e a n b c.take_commands-midi.result last.takes.stays.on
            (cause_since 1 e c.take_commands-osc.new.engine a m n c.take_commands-midi.result
            first.takes next.cause.0);
        saver = cause_since 2 e c.take_commands-midi.new.engine a n b
            c.take_outcomes-saver.result two last.cause.0;
      };
    }
