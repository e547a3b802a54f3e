use Rattle.std.proofs.Common.{arith, ◌<◌, sym, length}
use Rattle.std.proofs.lemmas.Grind.{common_steps}
use Rattle.pieces.specs.Pieces.{addresses}
use Rattle.pieces.proofs.OneMoreLemmas.{length-addresses-at, inserted-continues-at, inserted-solid, inserted-total, inserted-hint}
use Rattle.pieces.proofs.list.PieceList.insert_here.Goals as goal

pub invariant_of-self : goal.invariant_of-self
invariant_of-self c =
    let lt : c.args.place < length (addresses c.self.inside.pieces.items) =
    rw (sym c.self.view_is) at c.requires.place in
    let i = c.insert_vec-piece.ensures.items in
    record {
      spare = let a = c.self.invariant.spare in let b = c.insert_vec-piece.ensures.capacity in
          omega (arith, a, b);
      room = c.self.invariant.room;
      few = grind (arith, common_steps, i, c.requires.room, c.self.view_is);
      solid = rw i (inserted-solid c.args.place c.args.address c.self.inside.pieces.items
          c.self.invariant.solid);
      total = rw i (let a = c.self.invariant.total in
          let t = length-addresses-at c.self.inside.pieces.items c.args.place lt in
          let b = inserted-total c.args.place c.args.address c.self.inside.pieces.items
          (omega (arith, t)) in omega (arith, a, b));
      hint = inserted-hint c.args.place c.args.address c.insert_vec-piece.result
          c.self.inside.pieces.items c.insert_vec-piece.new.pieces.items i
          c.insert_vec-piece.ensures.index lt;
    }

pub returns-clause-continues : goal.returns-clause-continues
returns-clause-continues c =
    let lt : c.args.place < length (addresses c.self.inside.pieces.items) =
    rw (sym c.self.view_is) at c.requires.place in
    inserted-continues-at c.args.place c.args.address c.self.inside.pieces.items
    c.insert_vec-piece.new.pieces.items c.insert_vec-piece.ensures.items (omega (arith, lt))
    c.self.invariant.solid
