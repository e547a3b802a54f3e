use Rattle.std.proofs.Common.{rules, ◌≡◌, refl, sym}
use Rattle.pieces.specs.Pieces.{addresses}
use Rattle.layer_memory.proofs.PinLemmas.{stack-pinned-open}
use Rattle.layer_memory.proofs.layers.Layers.hold_open.Goals as goal

pub returns-clause-stack : goal.returns-clause-stack
returns-clause-stack c =
    let list : addresses c.set_to.new.self.items ≡ c.self.inside.fill.cells =
    rw (c.set_to.ensures, c.pieces.ensures.addresses) refl in
    rw (sym c.self.view_is)
    (stack-pinned-open c.self.inside.tape c.self.inside.closed c.self.inside.fill
    c.freeze.new.self c.self.inside.top c.self.inside.pin (addresses c.self.inside.pinned.items)
    (addresses c.set_to.new.self.items) c.len.result (search rules) c.facts.ensures.below
    c.freeze.ensures list c.len.ensures.value)
