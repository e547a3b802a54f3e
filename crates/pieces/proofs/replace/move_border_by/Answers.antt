use Rattle.std.proofs.Common.{rules}
use Rattle.pieces.proofs.SpanLemmas.{span_hint}
use Rattle.pieces.proofs.replace.move_border_by.Goals as goal

pub returns-clause-hint : goal.returns-clause-hint
returns-clause-hint c =
    rw (c.grown_by.ensures, c.back.ensures)
    (span_hint c.min-most.result c.args.place c.args.address c.args.hint.piece c.args.hint.begin
    c.index-last.result.now c.index-next.result.now c.args.pieces.now.items c.requires.solid
    c.requires.hint (search rules) (search rules) (search rules) (search rules) (search rules)
    (search rules) (search rules) (search rules) (search rules))
