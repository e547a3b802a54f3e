use Rattle.std.proofs.Common.{arith, ◌≤◌, ◌+◌, sym}
use Rattle.std.proofs.lemmas.Grind.{common_steps}
use Rattle.pieces.specs.Pieces.{total}
use Rattle.pieces.proofs.SplicingLemmas.{spliced-hint, spliced-solid, spliced-total}
use Rattle.pieces.proofs.calls.splice.Goals as goal

pub invariant_of-list : goal.invariant_of-list
invariant_of-list c =
    let le : c.args.place + c.args.count ≤ total c.list.inside.pieces.items =
    rw (sym c.list.view_is) at c.requires.within in
    let i = c.splice_vec-index.ensures.items in
    record {
      spare = let a = c.list.invariant.spare in let b = c.splice_vec-index.ensures.capacity in
          omega (arith, a, b);
      room = c.list.invariant.room;
      few = grind (arith, common_steps, i, c.requires.room, c.list.view_is);
      solid = rw i (spliced-solid c.args.place c.args.count c.args.piece c.list.inside.pieces.items
          c.len.ensures.some c.list.invariant.solid);
      total = let a = c.list.invariant.total in let b = spliced-total c.args.place c.args.count
          c.args.piece c.list.inside.pieces.items le in rw i (omega (arith, a, b, le));
      hint = spliced-hint c.args.place c.args.count c.splice_vec-index.result c.args.piece
          c.list.inside.pieces.items c.splice_vec-index.new.pieces.items le i
          c.splice_vec-index.ensures.index;
    }
