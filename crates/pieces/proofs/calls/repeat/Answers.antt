use Rattle.std.proofs.Common.{arith, ◌≡◌, ◌≤◌, ◌+◌, ◌-◌, sym, length, take, drop}
use Rattle.std.proofs.lemmas.Grind.{common_steps}
use Rattle.pieces.proofs.SplittingLemmas.{total-append, hint-append}
use Rattle.pieces.proofs.OneMoreLemmas.{solid-append}
use Rattle.pieces.proofs.RepeatLemmas.{solid-take, solid-drop, length-repeated}
use Rattle.pieces.proofs.calls.repeat.Goals as goal

pub invariant_of-list : goal.invariant_of-list
invariant_of-list c =
    let i = c.push_again.ensures.items in
    let w : c.args.first + c.args.count ≤ length c.list.inside.pieces.items =
    rw (sym c.list.view_is) at c.requires.within in
    let n : length c.push_again.new.pieces.items ≡ length c.list.inside.pieces.items
    + c.args.count = rw i
    (length-repeated c.args.first c.args.count c.list.inside.pieces.items w) in
    let s = solid-take c.args.count (drop c.args.first c.list.inside.pieces.items)
    (solid-drop c.args.first c.list.inside.pieces.items c.list.invariant.solid) in
    record {
      spare = let a = c.list.invariant.spare in let b = c.push_again.ensures.capacity in
          omega (arith, a, b);
      room = c.list.invariant.room;
      few = grind (arith, common_steps, n, c.requires.room, c.list.view_is);
      solid = rw i (solid-append c.list.inside.pieces.items
          (take c.args.count (drop c.args.first c.list.inside.pieces.items)) c.list.invariant.solid
          s);
      total = let a = total-append c.list.inside.pieces.items
          (take c.args.count (drop c.args.first c.list.inside.pieces.items)) in
          let b = c.list.invariant.total in
          let z : (c.args.first + c.args.count) - c.args.first ≡ c.args.count = omega arith in
          let d = rw (c.deref.ensures.value, z) at c.total_in-more.ensures in
          rw i (omega (arith, a, b, d));
      hint = hint-append c.list.inside.hint.piece c.list.inside.hint.begin
          c.list.inside.pieces.items
          (take c.args.count (drop c.args.first c.list.inside.pieces.items))
          c.push_again.new.pieces.items i c.list.invariant.hint;
    }
