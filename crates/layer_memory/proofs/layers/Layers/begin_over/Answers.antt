use Rattle.std.proofs.Common.{rules, ◌≡◌, ◌<◌, refl, sym, length, true}
use Rattle.pieces.specs.Pieces.{addresses}
use Rattle.looper_rules.specs.Opening.{opening_tape}
use Rattle.layer_memory.specs.Inside.{held_by}
use Rattle.layer_memory.proofs.OpeningLemmas.{stack-begun, begun-over}
use Rattle.layer_memory.proofs.layers.Layers.begin_over.Goals as goal

pub returns-clause-stack : goal.returns-clause-stack
returns-clause-stack c =
    let some : 0 < length c.self.inside.closed.layers = search rules in
    let tape : c.opening_tape-at.result ≡ opening_tape
    (held_by c.self.inside.tape c.self.inside.closed c.self.inside.fill c.self.inside.top
    c.self.inside.pin (addresses c.self.inside.pinned.items)).stack =
    rw (sym c.self.view_is) at c.opening_tape-at.ensures.value in
    rw (sym c.self.view_is)
    (stack-begun c.self.inside.tape c.cut_to.new.self c.self.inside.closed c.drop_redo.new.self
    c.self.inside.fill c.start.new.self c.self.inside.top
    (record { over = true; cycle = c.cycle.result; end = c.opening_tape-at.result })
    c.self.inside.pin (addresses c.self.inside.pinned.items) c.opening_tape-at.result
    c.current.result.now c.seams-seams.result (search rules) some c.self.invariant.0.ordered
    tape c.cut_to.ensures.len (rw c.drop_redo.ensures refl) (rw c.drop_redo.ensures refl)
    c.current.ensures.addresses c.seams-seams.ensures c.start.ensures (rw c.cycle.ensures refl))

pub invariant_of-self : goal.invariant_of-self
invariant_of-self c =
    let tape : c.opening_tape-at.result ≡ opening_tape
    (held_by c.self.inside.tape c.self.inside.closed c.self.inside.fill c.self.inside.top
    c.self.inside.pin (addresses c.self.inside.pinned.items)).stack =
    rw (sym c.self.view_is) at c.opening_tape-at.ensures.value in
    let opens = rw (sym c.self.view_is) at c.requires.opens in (
      rw c.cut_to.ensures.len
          (begun-over c.self.inside.tape c.opening_tape-at.result c.self.inside.closed
          c.drop_redo.new.self c.self.inside.fill c.start.new.self c.self.inside.top
          (record { over = true; cycle = c.cycle.result; end = c.opening_tape-at.result })
          c.self.inside.pin (addresses c.self.inside.pinned.items) c.current.result.now
          c.self.inside.seams c.seams-seams.result _ (search rules) c.self.invariant.0 opens tape
          (rw c.drop_redo.ensures refl) (rw c.drop_redo.ensures refl) c.start.ensures
          c.seams-seams.ensures refl refl),
      c.self.invariant.1,
    )
