use Rattle.audio_ends.proofs.TurnLemmas.{takes_same, takes_outcome, release_room, due_clears_in}
use Rattle.live_audio.proofs.takes.release_one.Goals as goal

pub returns-in_default-clause-takes : goal.returns-in_default-clause-takes
returns-in_default-clause-takes g c =
    takes_same _ _ _ c.requires.may c.next_outcome.ensures.on c.in_default.ensures.none
    c.next_outcome.ensures.quit

pub take-ends-requires-clause-room : goal.take-ends-requires-clause-room
take-ends-requires-clause-room g c = release_room _ _ _ c.requires.may c.requires.due

pub take-ends-requires-clause-clears : goal.take-ends-requires-clause-clears
take-ends-requires-clause-clears g c = due_clears_in _ _ _ _ c.requires.may c.requires.due

pub returns-clause-takes : goal.returns-clause-takes
returns-clause-takes g c =
    takes_outcome _ _ _ _ _ _ c.next_outcome.new.self c.requires.due c.requires.there
    c.in-Some.ensures.some.1 c.requires.free c.requires.may c.next_outcome.ensures.on
    c.in-Some.ensures.some.0 c.next_outcome.ensures.quit c.take-ends.ensures.took
    c.take-ends.ensures.reply
