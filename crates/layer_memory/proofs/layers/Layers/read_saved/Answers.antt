use Rattle.std.proofs.Common.{sym, length}
use Rattle.pieces.specs.Pieces.{addresses}
use Rattle.layer_memory.proofs.PinLemmas.{saved-low}
use Rattle.layer_memory.proofs.layers.Layers.read_saved.Goals as goal

pub read_pieces-requires-clause-below : goal.read_pieces-requires-clause-below
read_pieces-requires-clause-below c =
    let low = rw (sym c.self.view_is) at c.facts.ensures.low.pin in
    let place = rw (sym c.self.view_is) at c.requires.place in
    rw c.pieces.ensures.value
    (saved-low c.self.inside.tape.len c.self.inside.pin (addresses c.self.inside.pinned.items)
    c.args.place (length c.args.out.now) c.requires.some place low)
