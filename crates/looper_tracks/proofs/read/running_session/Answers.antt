use Rattle.std.proofs.Common.{ap, ◌∙◌}
use Rattle.looper_rules.specs.Saves.{session_asker}
use Rattle.looper_tracks.proofs.ReadLemmas.{runs_later, runs_here, runs_none}
use Rattle.looper_tracks.proofs.read.running_session.Goals as goal

pub loop-k-preserved : goal.loop-k-preserved
loop-k-preserved c =
    λ p. runs_later _ _ _ p _ _ c.loop-k-test.true c.index-tracks-k.is
    (c.session_asker-asker.ensures
    ∙ ap session_asker c.asker.ensures) c.is_some.ensures c.if-is_some.false (c.loop-k.invariant p)

pub returns-then-is_some : goal.returns-then-is_some
returns-then-is_some c =
    λ p. runs_here _ _ _ p _ _ c.loop-k-test.true c.index-tracks-k.is (c.session_asker-asker.ensures
    ∙ ap session_asker c.asker.ensures) c.is_some.ensures c.if-is_some.true (c.loop-k.invariant p)

pub returns : goal.returns
returns c = λ p. runs_none _ _ p c.loop-k-test.false (c.loop-k.invariant p)
