use Rattle.std.proofs.Common.{rules, arith, ◌<◌, length, sym}
use Rattle.std.proofs.lemmas.List.{length-map}
use Rattle.undo_stack.specs.Ranges.{range}
use Rattle.undo_stack.proofs.StackLemmas.{layer-within}
use Rattle.undo_stack.proofs.stack.LayerStack.layer.Goals as goal

pub slice_bounds-result-end : goal.slice_bounds-result-end
slice_bounds-result-end c =
    let n = length-map c.self.inside.marks.items (range c.self.inside.pieces.items) in
    let i = rw (sym c.self.view_is) at c.requires in
    let lt : c.args.index < length c.self.inside.marks.items = omega (arith, n, i) in
    let w = layer-within c.self.inside.pieces.items c.self.inside.marks.items c.self.inside.layers
    c.args.index c.index-mark.result.now c.self.invariant.holds lt (search rules) in
    rw c.deref.ensures.value w
