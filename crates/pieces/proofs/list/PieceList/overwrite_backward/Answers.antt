use Rattle.std.proofs.Common.{arith, ◌<◌, sym, length}
use Rattle.std.proofs.lemmas.Grind.{common_steps}
use Rattle.pieces.specs.Pieces.{addresses}
use Rattle.pieces.proofs.BackwardLemmas.{overwritten-down-continues, overwritten-down-solid, overwritten-down-total, backward-hint}
use Rattle.pieces.proofs.OneMoreLemmas.{length-addresses-at}
use Rattle.pieces.proofs.list.PieceList.overwrite_backward.Goals as goal

pub invariant_of-self : goal.invariant_of-self
invariant_of-self c =
    let lt : c.args.place < length (addresses c.self.inside.pieces.items) =
    rw (sym c.self.view_is) at c.requires.place in
    let i = c.overwrite_vec_backward-piece.ensures.items in
    record {
      spare = let a = c.self.invariant.spare in
          let b = c.overwrite_vec_backward-piece.ensures.capacity in omega (arith, a, b);
      room = c.self.invariant.room;
      few = grind (arith, common_steps, i, c.requires.room, c.self.view_is);
      solid = rw i (overwritten-down-solid c.args.place c.args.address c.self.inside.pieces.items
          c.self.invariant.solid);
      total = rw i (let a = c.self.invariant.total in
          let b = overwritten-down-total c.args.place c.args.address c.self.inside.pieces.items
          (length-addresses-at c.self.inside.pieces.items c.args.place lt) in omega (arith, a, b));
      hint = backward-hint c.args.place c.args.address c.overwrite_vec_backward-piece.result
          c.self.inside.pieces.items c.overwrite_vec_backward-piece.new.pieces.items i
          c.overwrite_vec_backward-piece.ensures.index lt;
    }

pub returns-clause-continues : goal.returns-clause-continues
returns-clause-continues c =
    let lt : c.args.place < length (addresses c.self.inside.pieces.items) =
    rw (sym c.self.view_is) at c.requires.place in
    overwritten-down-continues c.args.place c.args.address c.self.inside.pieces.items
    c.overwrite_vec_backward-piece.new.pieces.items c.overwrite_vec_backward-piece.ensures.items
    lt c.self.invariant.solid
