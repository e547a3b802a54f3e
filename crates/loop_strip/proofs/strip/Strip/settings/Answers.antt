use Rattle.std.proofs.Common.{◌∙◌}
use Rattle.loop_strip.proofs.StripLemmas.{settings_at}
use Rattle.loop_strip.proofs.strip.Strip.settings.Goals as goal

pub returns : goal.returns
returns c = λ p. c.settings.ensures ∙ settings_at c.self.inside.parts c.args.self.now p
    c.self.view_is
