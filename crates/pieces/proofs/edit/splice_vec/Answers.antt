use Rattle.std.proofs.Common.{arith}
use Rattle.pieces.proofs.AddressLemmas.{order-twice}
use Rattle.pieces.proofs.edit.splice_vec.Goals as goal

pub remove_between-requires-clause-order : goal.remove_between-requires-clause-order
remove_between-requires-clause-order c =
    order-twice c.args.place c.args.count _ _ c.args.pieces.now.items
    c.split_vec-from.new.pieces.items c.split_vec-to.new.pieces.items
    (omega (arith, c.requires.within)) c.split_vec-from.ensures.items c.split_vec-from.ensures.index
    c.split_vec-to.ensures.items c.split_vec-to.ensures.index
