use Rattle.std.proofs.Common.{arith, ◌≤◌, sym}
use Rattle.std.proofs.lemmas.Grind.{common_steps}
use Rattle.pieces.specs.Pieces.{total}
use Rattle.pieces.proofs.SplicingLemmas.{split-hint, split-solid}
use Rattle.pieces.proofs.OneMoreLemmas.{split-total}
use Rattle.pieces.proofs.calls.split_at.Goals as goal

pub invariant_of-list : goal.invariant_of-list
invariant_of-list c =
    let le : c.args.place ≤ total c.list.inside.pieces.items =
    rw (sym c.list.view_is) at c.requires.place in
    let i = c.split_vec-piece.ensures.items in
    record {
      spare = let a = c.list.invariant.spare in let b = c.split_vec-piece.ensures.capacity in
          omega (arith, a, b);
      room = c.list.invariant.room;
      few = grind (arith, common_steps, i, c.requires.room, c.list.view_is);
      solid = rw i (split-solid c.args.place c.list.inside.pieces.items c.list.invariant.solid);
      total = let a = c.list.invariant.total in
          let b = split-total c.args.place c.list.inside.pieces.items
          c.split_vec-piece.new.pieces.items i le in omega (arith, a, b);
      hint = split-hint c.args.place c.split_vec-piece.result c.list.inside.pieces.items
          c.split_vec-piece.new.pieces.items le i c.split_vec-piece.ensures.index;
    }
