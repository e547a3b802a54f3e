use Rattle.std.proofs.Common.{arith, sym, ◌∙◌}
use Rattle.audio_ends.proofs.TurnLemmas.{takes_more, takes_nothing, none_due}
use Rattle.live_audio.proofs.takes.answer_one.Goals as goal

pub returns-then-settle-clause-takes : goal.returns-then-settle-clause-takes
returns-then-settle-clause-takes g c =
    takes_more _ _ _ _ _ _ c.release_one.ensures.takes c.settle.ensures.takes

pub returns-else-settle-clause-takes : goal.returns-else-settle-clause-takes
returns-else-settle-clause-takes g c =
    takes_more _ _ _ _ _ _ c.release_one.ensures.takes c.settle.ensures.takes

pub returns-in_default-clause-takes : goal.returns-in_default-clause-takes
returns-in_default-clause-takes g c = takes_nothing _ _ c.requires.may
