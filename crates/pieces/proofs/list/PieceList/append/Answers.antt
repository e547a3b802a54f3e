use Rattle.std.proofs.Common.{arith, sym}
use Rattle.std.proofs.lemmas.Grind.{common_steps}
use Rattle.pieces.proofs.OneMoreLemmas.{joined-continues-at, joined-solid, joined-total, joined-hint}
use Rattle.pieces.proofs.list.PieceList.append.Goals as goal

pub invariant_of-self : goal.invariant_of-self
invariant_of-self c =
    let i = c.append_vec-piece.ensures.items in
    record {
      spare = let a = c.self.invariant.spare in let b = c.append_vec-piece.ensures.capacity in
          omega (arith, a, b);
      room = c.self.invariant.room;
      few = grind (arith, common_steps, i, c.requires.room, c.self.view_is);
      solid = rw i (joined-solid c.args.address c.self.inside.pieces.items c.self.invariant.solid);
      total = rw i (let a = c.self.invariant.total in
          let b = joined-total c.args.address c.self.inside.pieces.items in omega (arith, a, b));
      hint = joined-hint c.args.address c.append_vec-piece.result c.self.inside.total
          c.self.inside.pieces.items c.append_vec-piece.new.pieces.items i
          c.append_vec-piece.ensures.index c.self.invariant.total;
    }

pub returns-clause-continues : goal.returns-clause-continues
returns-clause-continues c =
    rw (sym c.self.view_is)
    (joined-continues-at c.args.address c.self.inside.pieces.items
    c.append_vec-piece.new.pieces.items
    c.append_vec-piece.ensures.items)
