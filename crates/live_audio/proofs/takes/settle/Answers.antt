use Rattle.audio_ends.proofs.TurnLemmas.{takes_held, held_room}
use Rattle.live_audio.proofs.takes.settle.Goals as goal

pub returns-clause-takes : goal.returns-clause-takes
returns-clause-takes g c =
    takes_held _ _ _ c.requires.may c.put_held.ensures.put c.put_held.ensures.on
    c.put_held.ensures.quit

pub put_held-requires : goal.put_held-requires
put_held-requires g c = record { room = held_room _ _ c.requires.may }
