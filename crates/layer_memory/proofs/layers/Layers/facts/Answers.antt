use Rattle.std.proofs.Common.{subst}
use Rattle.pieces.specs.Pieces.{addresses}
use Rattle.layer_memory.specs.Seen.{Held}
use Rattle.layer_memory.specs.Sharing.{IsShared}
use Rattle.layer_memory.proofs.SharedLemmas.{shared}
use Rattle.layer_memory.proofs.layers.Layers.facts.Goals as goal

pub returns : goal.returns
returns c = subst (λ (h : Held). IsShared h) c.self.view_is
    (shared c.self.inside.tape c.self.inside.closed c.self.inside.fill c.self.inside.top
    c.self.inside.pin (addresses c.self.inside.pinned.items) c.self.inside.seams
    c.facts.ensures.whole c.self.invariant.0 c.facts-2.ensures c.facts-3.ensures.pieced
    c.facts-3.ensures.redo_pieced)
