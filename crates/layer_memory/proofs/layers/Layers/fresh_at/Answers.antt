use Rattle.std.proofs.Common.{rules, arith, ◌<◌, sym, length, IsTrue, is_some}
use Rattle.std.proofs.lemmas.Grind.{common_steps}
use Rattle.pieces.specs.Pieces.{addresses}
use Rattle.looper_rules.specs.Layers.{current_length}
use Rattle.layer_memory.specs.Inside.{stacked}
use Rattle.layer_memory.proofs.FreshLemmas.{alone-in, place-in}
use Rattle.layer_memory.proofs.layers.Layers.fresh_at.Goals as goal

pub returns-then-marks-clause-alone : goal.returns-then-marks-clause-alone
returns-then-marks-clause-alone c =
    let writing : IsTrue (is_some c.self.inside.top) = search rules in
    let place : c.args.place < current_length
    (stacked c.self.inside.top c.self.inside.fill c.self.inside.closed.layers) =
    rw (sym c.self.view_is) at c.requires.place in
    let within : c.args.place < length c.self.inside.fill.cells = place-in c.self.inside.top
    c.self.inside.fill c.self.inside.closed.layers c.args.place writing place in
    rw (sym c.self.view_is)
    (alone-in c.self.inside.tape c.self.inside.closed c.self.inside.fill c.self.inside.top
    c.self.inside.pin (addresses c.self.inside.pinned.items) c.self.inside.seams c.args.place
    c.address-address.result writing c.self.invariant.0 c.facts.ensures within
    c.address-address.ensures
    (grind (arith, common_steps, c.marks.ensures, c.if-marks.true, c.address-address.ensures)))
