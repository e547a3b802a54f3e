use Rattle.std.proofs.Common.{rules, ◌≡◌, ap, refl}
use Rattle.pieces.specs.Pieces.{Piece, addresses}
use Rattle.loop_tape.specs.Tapes.{at}
use Rattle.layer_memory.proofs.SpanLemmas.{span-more}
use Rattle.layer_memory.proofs.spans.read_pieces.Goals as goal

pub loop-done-preserved : goal.loop-done-preserved
loop-done-preserved c =
    let same_length : c.piece.inside.len ≡ c.piece_from-piece.result.len =
    ap (λ (p : Piece). p.len) c.piece.view_is in
    record {
      within = search (rules, same_length);
      hint = c.find_from-found.ensures.hint;
      value = span-more (at c.args.tape.now c.args.pool.now) (addresses c.args.list.now)
          c.piece_from-piece.result c.args.place c.loop-done.done c.piece.inside.len c.loop-done.out
          c.read_piece.new.out _ _ c.loop-done.invariant.within c.loop-done.invariant.value
          c.read_piece.ensures c.piece_from-piece.ensures.addresses same_length refl;
    }
