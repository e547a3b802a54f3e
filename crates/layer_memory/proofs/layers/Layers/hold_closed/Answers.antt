use Rattle.std.proofs.Common.{rules, ◌≡◌, refl}
use Rattle.pieces.specs.Pieces.{addresses}
use Rattle.looper_rules.specs.Layers.{current_list}
use Rattle.layer_memory.proofs.PinLemmas.{held-pinned-closed}
use Rattle.layer_memory.proofs.layers.Layers.hold_closed.Goals as goal

pub invariant_of-self : goal.invariant_of-self
invariant_of-self c =
    let list : addresses c.set_to.new.self.items ≡ current_list c.self.inside.closed.layers =
    rw (c.set_to.ensures, c.current.ensures.addresses) refl in (
      held-pinned-closed c.self.inside.tape.len c.len.result c.self.inside.closed c.self.inside.fill
          c.self.inside.top c.self.inside.pin (addresses c.self.inside.pinned.items)
          (addresses c.set_to.new.self.items) c.self.inside.seams
          (search rules) c.self.invariant.0 list
          c.len.ensures.value,
      rw c.set_to.ensures c.self.invariant.1,
    )
