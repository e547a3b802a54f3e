use Rattle.loop_strip.proofs.RecordLemmas.{strip_records}
use Rattle.loop_strip.proofs.LawLemmas.{did_hit}
use Rattle.loop_strip.proofs.laws.a_recording_is_what_was_played.Goals as goal

pub returns-clause-recording : goal.returns-clause-recording
returns-clause-recording c =
    strip_records c.args.input.now c.args.strip.now c.give.new.self c.play.new.self
    c.give-2.new.self
    c.args.pool.now c.give.new.pool c.play.new.pool c.give-2.new.pool
    (did_hit c.hit.ensures c.give.ensures) c.play.ensures.did
    (did_hit c.hit-2.ensures c.give-2.ensures)
    c.requires.off c.requires.at_once c.requires.no_threshold c.requires.granted c.requires.some
    c.requires.short c.requires.room
