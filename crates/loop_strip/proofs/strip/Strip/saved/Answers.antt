use Rattle.std.proofs.Common.{◌∙◌, ap, get_or}
use Rattle.sl_base.specs.Sounds.{silence}
use Rattle.loop_strip.proofs.StripLemmas.{pinned_at}
use Rattle.loop_strip.proofs.strip.Strip.saved.Goals as goal

pub returns : goal.returns
returns c = c.saved.ensures ∙ ap (λ xs. get_or xs c.args.place silence)
    (pinned_at c.self.inside.parts c.args.self.now c.args.pool.now c.self.view_is)
