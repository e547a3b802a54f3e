use Rattle.std.proofs.Common.{rules, sym, true, IsTrue, is_some, ◌≡◌, get_or}
use Rattle.pieces.specs.Pieces.{addresses}
use Rattle.layer_memory.proofs.SpanWriteLemmas.{marked-row, fresh-rows, alone-row}
use Rattle.layer_memory.proofs.layers.Layers.fresh_ahead.Goals as goal

pub returns-clause-fresh : goal.returns-clause-fresh
returns-clause-fresh c =
    let writing : IsTrue (is_some c.self.inside.top) = search rules in
    let first : c.address-address.result ≡ get_or c.self.inside.fill.cells c.args.place 0 =
    search rules in
    rw (sym c.self.view_is)
    (marked-row c.self.inside.top c.self.inside.fill c.self.inside.closed.layers true
    c.fresh_cells-count.result c.args.place writing c.fresh_cells-count.ensures.inside
    (fresh-rows c.self.inside.fill.floor c.address-address.result c.fresh_cells-count.result
    c.args.place c.self.inside.fill.cells first c.fresh_cells-count.ensures.fresh
    c.fresh_cells-count.ensures.row))

pub returns-clause-alone : goal.returns-clause-alone
returns-clause-alone c =
    let writing : IsTrue (is_some c.self.inside.top) = search rules in
    let first : c.address-address.result ≡ get_or c.self.inside.fill.cells c.args.place 0 =
    search rules in
    rw (sym c.self.view_is)
    (alone-row c.self.inside.tape c.self.inside.closed c.self.inside.fill c.self.inside.top
    c.self.inside.pin (addresses c.self.inside.pinned.items) c.self.inside.seams c.args.place
    c.address-address.result c.fresh_cells-count.result writing c.self.invariant.0 c.facts.ensures
    c.fresh_cells-count.ensures.inside first c.fresh_cells-count.ensures.fresh
    c.fresh_cells-count.ensures.row)
