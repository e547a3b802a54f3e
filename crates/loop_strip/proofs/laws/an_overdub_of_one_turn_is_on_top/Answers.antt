use Rattle.loop_strip.proofs.TurnLemmas.{strip_turns, strip_hears}
use Rattle.loop_strip.proofs.LawLemmas.{did_hit}
use Rattle.loop_strip.proofs.laws.an_overdub_of_one_turn_is_on_top.Goals as goal

pub returns-clause-list : goal.returns-clause-list
returns-clause-list c =
    strip_turns c.args.input.now c.args.strip.now c.give.new.self c.play.new.self c.give-2.new.self
    c.args.pool.now c.give.new.pool c.play.new.pool c.give-2.new.pool
    (did_hit c.hit.ensures c.give.ensures) c.play.ensures.did
    (did_hit c.hit-2.ensures c.give-2.ensures)
    c.requires.at_once c.requires.rests c.requires.forward c.requires.first c.requires.granted
    c.requires.turn c.requires.some c.requires.room

pub returns-clause-heard : goal.returns-clause-heard
returns-clause-heard c =
    strip_hears c.args.input.now c.play.new.heard c.args.strip.now c.give.new.self c.args.pool.now
    c.give.new.pool (did_hit c.hit.ensures c.give.ensures) c.play.ensures.heard
    c.requires.at_once c.requires.rests c.requires.forward c.requires.first c.requires.granted
    c.requires.turn c.requires.some c.requires.room
