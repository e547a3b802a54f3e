use Rattle.std.proofs.Common.{arith, ◌≡◌, ◌+◌, length, length-append}
use Rattle.std.proofs.lemmas.Grind.{common_steps}
use Rattle.pieces.proofs.SplittingLemmas.{total-append, hint-append}
use Rattle.pieces.proofs.OneMoreLemmas.{solid-append}
use Rattle.pieces.proofs.list.PieceList.extend.Goals as goal

pub invariant_of-self : goal.invariant_of-self
invariant_of-self c =
    let i = c.push_all.ensures.items in
    let n : length c.push_all.new.pieces.items ≡ length c.self.inside.pieces.items + length
    c.args.pieces.now = rw i (length-append c.self.inside.pieces.items c.args.pieces.now) in
    record {
      spare = let a = c.self.invariant.spare in let b = c.push_all.ensures.capacity in
          omega (arith, a, b);
      room = c.self.invariant.room;
      few = grind (arith, common_steps, n, c.requires.room, c.self.view_is);
      solid = rw i (solid-append c.self.inside.pieces.items c.args.pieces.now c.self.invariant.solid
          c.requires.solid);
      total = let a = total-append c.self.inside.pieces.items c.args.pieces.now in
          let b = c.self.invariant.total in let d = c.total_in-more.ensures in
          rw i (omega (arith, a, b, d));
      hint = hint-append c.self.inside.hint.piece c.self.inside.hint.begin
          c.self.inside.pieces.items c.args.pieces.now c.push_all.new.pieces.items i
          c.self.invariant.hint;
    }
