use Rattle.std.proofs.Common.{rules, ◌≡◌, refl, sym, length}
use Rattle.pieces.specs.Pieces.{addresses}
use Rattle.looper_rules.specs.Closing.{closing_cycle}
use Rattle.lazy_fill.specs.Addresses.{Below}
use Rattle.lazy_fill.specs.Fills.{cut_list}
use Rattle.layer_memory.proofs.ClosingLemmas.{held-closed-at, stack-closed-at}
use Rattle.layer_memory.proofs.layers.Layers.close.Goals as goal

pub invariant_of-self : goal.invariant_of-self
invariant_of-self c =
    let low : Below c.cut.new.self.next (addresses c.pieces.result.now) =
    rw c.pieces.ensures.addresses c.facts.ensures.below in
    let same_seams : c.seams-seams.result ≡ c.self.inside.fill.seams =
    rw (c.seams-seams.ensures, c.cut.ensures) refl in
    let same_next : c.cut.new.self.next ≡ c.self.inside.fill.next = rw c.cut.ensures refl in (
      held-closed-at c.self.inside.tape.len c.cut.new.self.next c.cycle_at-cycle.result
          c.len-end.result c.seams-seams.result (addresses c.pieces.result.now) c.self.inside.closed
          c.add.new.self c.self.inside.fill c.cut.new.self c.self.inside.top c.self.inside.pin
          (addresses c.self.inside.pinned.items) c.self.inside.seams
          (search rules) c.self.invariant.0
          (rw c.add.ensures refl)
          (rw c.add.ensures refl) c.len-end.ensures.value same_seams same_next
          low,
      c.self.invariant.1,
    )

pub returns-in-Some-clause-stack : goal.returns-in-Some-clause-stack
returns-in-Some-clause-stack c =
    let same_seams : c.seams-seams.result ≡ c.self.inside.fill.seams =
    rw (c.seams-seams.ensures, c.cut.ensures) refl in
    let list : addresses c.pieces.result.now ≡ cut_list c.args.cut c.self.inside.fill.cells =
    rw (c.pieces.ensures.addresses, c.cut.ensures) refl in
    let cycle : c.cycle_at-cycle.result ≡ closing_cycle c.in-Some.top.cycle
    (length (cut_list c.args.cut c.self.inside.fill.cells)) =
    rw (c.cycle_at-cycle.ensures, c.len.ensures.value, c.cut.ensures) refl in
    rw (sym c.self.view_is)
    (stack-closed-at c.self.inside.tape c.self.inside.closed c.add.new.self c.self.inside.fill
    c.cut.new.self c.self.inside.top c.in-Some.top c.self.inside.pin
    (addresses c.self.inside.pinned.items) c.args.cut (addresses c.pieces.result.now)
    c.cycle_at-cycle.result c.len-end.result c.seams-seams.result c.in-Some.is
    c.self.invariant.0.opened (rw c.add.ensures refl) (rw c.add.ensures refl) list cycle
    c.len-end.ensures.value same_seams)
