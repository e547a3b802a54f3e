use Rattle.std.proofs.Common.{◌∙◌}
use Rattle.loop_strip.proofs.StripLemmas.{face_at}
use Rattle.loop_strip.proofs.strip.Strip.face.Goals as goal

pub returns-clause-value : goal.returns-clause-value
returns-clause-value c =
    λ p. c.face.ensures ∙ face_at c.self.inside.parts c.args.self.now p c.self.view_is
