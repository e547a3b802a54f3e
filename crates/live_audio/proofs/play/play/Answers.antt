use Rattle.std.proofs.Common.{arith}
use Rattle.live_audio.proofs.PlayLemmas.{plays_nothing}
use Rattle.live_audio.proofs.play.play.Goals as goal

pub returns-then-due-eq0-clause-plays : goal.returns-then-due-eq0-clause-plays
returns-then-due-eq0-clause-plays g c =
    plays_nothing _ _ _ _ _ _ c.requires.ready.few c.requires.ready.some
    (let a = c.frames_due-due.ensures in let b = c.if-due-eq0.true in omega arith)
