use Rattle.std.proofs.Common.{arith, ◌<◌, sym, length}
use Rattle.std.proofs.lemmas.Grind.{common_steps}
use Rattle.pieces.specs.Pieces.{addresses}
use Rattle.pieces.proofs.OneMoreLemmas.{length-addresses-at, overwritten-continues-at, overwritten-solid, overwritten-total, overwritten-hint}
use Rattle.pieces.proofs.list.PieceList.overwrite.Goals as goal

pub invariant_of-self : goal.invariant_of-self
invariant_of-self c =
    let lt : c.args.place < length (addresses c.self.inside.pieces.items) =
    rw (sym c.self.view_is) at c.requires.place in
    let i = c.overwrite_vec-piece.ensures.items in
    record {
      spare = let a = c.self.invariant.spare in let b = c.overwrite_vec-piece.ensures.capacity in
          omega (arith, a, b);
      room = c.self.invariant.room;
      few = grind (arith, common_steps, i, c.requires.room, c.self.view_is);
      solid = rw i (overwritten-solid c.args.place c.args.address c.self.inside.pieces.items
          c.self.invariant.solid);
      total = rw i (let a = c.self.invariant.total in
          let b = overwritten-total c.args.place c.args.address c.self.inside.pieces.items
          (length-addresses-at c.self.inside.pieces.items c.args.place lt) in omega (arith, a, b));
      hint = overwritten-hint c.args.place c.args.address c.overwrite_vec-piece.result
          c.self.inside.pieces.items c.overwrite_vec-piece.new.pieces.items i
          c.overwrite_vec-piece.ensures.index lt;
    }

pub returns-clause-continues : goal.returns-clause-continues
returns-clause-continues c =
    let lt : c.args.place < length (addresses c.self.inside.pieces.items) =
    rw (sym c.self.view_is) at c.requires.place in
    overwritten-continues-at c.args.place c.args.address c.self.inside.pieces.items
    c.overwrite_vec-piece.new.pieces.items c.overwrite_vec-piece.ensures.items lt
    c.self.invariant.solid
