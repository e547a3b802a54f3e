-- What is left has the shapes where all have.
use Rattle.std.proofs.Common.{◌≡◌, map, drop}
use Rattle.text_lines.specs.Shapes.{have_shapes}
use Rattle.text_lines.proofs.shape.have_shapes.Given as goal

abbrev pub invariant-loop-place : goal.invariant-loop-place
invariant-loop-place l = have_shapes (drop l.place l.shapes)
    (map (λ w. w.now) (drop l.place l.words)) ≡ have_shapes l.shapes (map (λ w. w.now) l.words)
