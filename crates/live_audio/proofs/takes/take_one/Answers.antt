use Rattle.audio_ends.proofs.TurnLemmas.{takes_more, cause_since, held_by}
use Rattle.live_audio.proofs.takes.take_one.Goals as goal

pub returns-then-settle-clause-takes : goal.returns-then-settle-clause-takes
returns-then-settle-clause-takes g c =
    takes_more _ _ _ _ _ _ c.give_one.ensures.takes c.settle.ensures.takes

pub returns-else-settle-clause-takes : goal.returns-else-settle-clause-takes
returns-else-settle-clause-takes g c =
    takes_more _ _ _ _ _ _ c.give_one.ensures.takes c.settle.ensures.takes
