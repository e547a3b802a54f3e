use Rattle.std.proofs.Common.{rules, ◌≡◌, sym, subst, map, length}
use Rattle.pieces.specs.Pieces.{Piece, piece_addresses}
use Rattle.lazy_fill.specs.Addresses.{Below}
use Rattle.loop_tape.specs.Tapes.{at}
use Rattle.layer_memory.proofs.SpanLemmas.{forward-below, read-ahead, read-back}
use Rattle.layer_memory.proofs.spans.read_piece.Goals as goal

pub read_forward-requires-clause-below : goal.read_forward-requires-clause-below
read_forward-requires-clause-below c =
    let below = subst (λ (p : Piece). Below c.args.tape.now.len (piece_addresses p))
    (sym c.piece.view_is) c.requires.below in
    let same_length : length c.args.out.now ≡ c.piece.inside.len =
    subst (λ (p : Piece). length c.args.out.now ≡ p.len) (sym c.piece.view_is)
    c.requires.length in
    forward-below c.args.tape.now.len (length c.args.out.now) _ c.piece.invariant.some
    c.if-piece.false same_length below

pub returns-then-piece : goal.returns-then-piece
returns-then-piece c =
    let same_length : length c.args.out.now ≡ c.piece.inside.len =
    subst (λ (p : Piece). length c.args.out.now ≡ p.len) (sym c.piece.view_is)
    c.requires.length in
    subst (λ (p : Piece). c.read_backward.new.out ≡ map (at c.args.tape.now c.args.pool.now)
    (piece_addresses p)) c.piece.view_is
    (read-back (at c.args.tape.now c.args.pool.now) _ (length c.args.out.now)
    c.read_backward.new.out (search rules) same_length c.if-piece.true c.read_backward.ensures)

pub returns-else-piece : goal.returns-else-piece
returns-else-piece c =
    let same_length : length c.args.out.now ≡ c.piece.inside.len =
    subst (λ (p : Piece). length c.args.out.now ≡ p.len) (sym c.piece.view_is)
    c.requires.length in
    subst (λ (p : Piece). c.read_forward.new.out ≡ map (at c.args.tape.now c.args.pool.now)
    (piece_addresses p)) c.piece.view_is
    (read-ahead (at c.args.tape.now c.args.pool.now) _ (length c.args.out.now)
    c.read_forward.new.out (search rules) same_length c.if-piece.false c.read_forward.ensures)
