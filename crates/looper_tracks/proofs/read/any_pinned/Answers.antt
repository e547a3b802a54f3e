use Rattle.looper_tracks.proofs.ReadLemmas.{pinned_later, pinned_here, pinned_none}
use Rattle.looper_tracks.proofs.read.any_pinned.Goals as goal

pub loop-k-preserved : goal.loop-k-preserved
loop-k-preserved c =
    λ p. pinned_later _ _ _ p _ c.loop-k-test.true c.index-tracks-k.is (c.face.ensures p)
    c.if-face.false (c.loop-k.invariant p)

pub returns-then-face : goal.returns-then-face
returns-then-face c =
    λ p. pinned_here _ _ _ p _ c.loop-k-test.true c.index-tracks-k.is (c.face.ensures p)
    c.if-face.true (c.loop-k.invariant p)

pub returns : goal.returns
returns c = λ p. pinned_none _ _ p c.loop-k-test.false (c.loop-k.invariant p)
