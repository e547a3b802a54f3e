use Rattle.std.proofs.Common.{rules, sym, false, IsTrue, is_some}
use Rattle.layer_memory.proofs.SpanWriteLemmas.{marked-row}
use Rattle.layer_memory.proofs.layers.Layers.old_ahead.Goals as goal

pub returns-clause-old : goal.returns-clause-old
returns-clause-old c =
    let writing : IsTrue (is_some c.self.inside.top) = search rules in
    rw (sym c.self.view_is)
    (marked-row c.self.inside.top c.self.inside.fill c.self.inside.closed.layers false
    c.old_cells.result c.args.place writing c.old_cells.ensures.inside c.old_cells.ensures.old)
