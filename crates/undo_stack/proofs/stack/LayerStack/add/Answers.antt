use Rattle.std.proofs.Common.{rules, arith, ◌≡◌, ◌≤◌, ◌+◌, ◌<◌, refl, sym, [], map, take, drop, reverse, length}
use Rattle.std.proofs.lemmas.Grind.{common_steps}
use Rattle.sl_base.specs.Limits.{max_layers, max_seams}
use Rattle.looper_rules.specs.Layers.{total_seams}
use Rattle.undo_stack.specs.Ranges.{layer_of}
use Rattle.undo_stack.proofs.StackLemmas.{room-added, holds-added, marks-room, hint-front-at}
use Rattle.pieces.proofs.AddressLemmas.{length-addresses}
use Rattle.undo_stack.proofs.stack.LayerStack.add.Goals as goal

pub push_all-requires : goal.push_all-requires
push_all-requires c =
    let en : map (layer_of c.self.inside.pieces.items)
    (drop c.self.inside.layers c.self.inside.marks.items) ≡ [] =
    rw (sym c.self.view_is) at c.requires.redo in
    let le : total_seams
    (reverse (map (layer_of c.self.inside.pieces.items)
    (take c.self.inside.layers c.self.inside.marks.items))) + c.args.seams ≤ max_seams =
    rw (sym c.self.view_is) at c.requires.seams in
    let r = room-added c.self.inside.pieces.items c.self.inside.marks.items c.self.inside.layers
    c.args.seams (map (layer_of c.self.inside.pieces.items)
    (drop c.self.inside.layers c.self.inside.marks.items)) c.self.invariant.holds refl en le in
    let room = c.self.invariant.room in let few = c.requires.few in
    record { room = omega (arith, r.0, room, few) }

pub overflow_cast-start : goal.overflow_cast-start
overflow_cast-start c =
    let en : map (layer_of c.self.inside.pieces.items)
    (drop c.self.inside.layers c.self.inside.marks.items) ≡ [] =
    rw (sym c.self.view_is) at c.requires.redo in
    let le : total_seams
    (reverse (map (layer_of c.self.inside.pieces.items)
    (take c.self.inside.layers c.self.inside.marks.items))) + c.args.seams ≤ max_seams =
    rw (sym c.self.view_is) at c.requires.seams in
    let r = room-added c.self.inside.pieces.items c.self.inside.marks.items c.self.inside.layers
    c.args.seams (map (layer_of c.self.inside.pieces.items)
    (drop c.self.inside.layers c.self.inside.marks.items)) c.self.invariant.holds refl en le in
    let a : length c.self.inside.pieces.items ≤ max_seams = omega (arith, r.0) in
    grind (arith, common_steps, a, c.len-start.ensures)

pub push_reserved-requires : goal.push_reserved-requires
push_reserved-requires c =
    let en : map (layer_of c.self.inside.pieces.items)
    (drop c.self.inside.layers c.self.inside.marks.items) ≡ [] =
    rw (sym c.self.view_is) at c.requires.redo in
    let m : length (reverse
    (map (layer_of c.self.inside.pieces.items)
    (take c.self.inside.layers c.self.inside.marks.items))) < max_layers =
    rw (sym c.self.view_is) at c.requires.count in
    let k = marks-room c.self.inside.pieces.items c.self.inside.marks.items c.self.inside.layers
    c.self.invariant.holds.within en m in
    let r = c.self.invariant.marks_room in
    grind (arith, common_steps, k, r)

pub invariant_of-self : goal.invariant_of-self
invariant_of-self c =
    let en : map (layer_of c.self.inside.pieces.items)
    (drop c.self.inside.layers c.self.inside.marks.items) ≡ [] =
    rw (sym c.self.view_is) at c.requires.redo in
    let le : total_seams
    (reverse (map (layer_of c.self.inside.pieces.items)
    (take c.self.inside.layers c.self.inside.marks.items))) + c.args.seams ≤ max_seams =
    rw (sym c.self.view_is) at c.requires.seams in
    let r = room-added c.self.inside.pieces.items c.self.inside.marks.items c.self.inside.layers
    c.args.seams (map (layer_of c.self.inside.pieces.items)
    (drop c.self.inside.layers c.self.inside.marks.items)) c.self.invariant.holds refl en le in
    let m : length (reverse
    (map (layer_of c.self.inside.pieces.items)
    (take c.self.inside.layers c.self.inside.marks.items))) < max_layers =
    rw (sym c.self.view_is) at c.requires.count in
    let w = c.self.invariant.holds.within in
    let n : c.self.inside.layers < max_layers = grind (arith, common_steps, m, w) in
    record {
      holds = holds-added c.self.inside.pieces.items c.push_all.new.pieces.items c.args.pieces.now
          c.self.inside.marks.items c.push_reserved.new.self.items c.self.inside.layers
          (record {
            start = c.len-start.result;
            count = length c.args.pieces.now;
            length =
                c.total_in-length.result;
            cycle = c.args.cycle;
            end = c.args.end;
            seams = c.args.seams;
          })
          c.self.invariant.holds en (search rules) refl c.requires.few r.1 n c.requires.solid
          (rw c.total_in-length.ensures (sym (length-addresses c.args.pieces.now))) c.requires.short
          c.push_all.ensures.items (search rules);
      room = search rules;
      marks_room = search rules;
      hint = hint-front-at _ _ _ c.front-self-inside.ensures.piece
          c.front-self-inside.ensures.begin;
    }
