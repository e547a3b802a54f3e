use Rattle.std.proofs.Common.{sym, ◌∙◌, map}
use Rattle.std.proofs.lemmas.List.{length-map}
use Rattle.text_lines.proofs.ShapeLemmas.{not_as_many}
use Rattle.text_lines.proofs.shape.have_shapes.Goals as goal

pub returns-then-shapes-words : goal.returns-then-shapes-words
returns-then-shapes-words c =
    sym (not_as_many c.args.shapes.now (map (λ w. w.now) c.args.words.now)
    (λ e. c.if-shapes-words.true (e ∙ length-map c.args.words.now (λ w. w.now))))
