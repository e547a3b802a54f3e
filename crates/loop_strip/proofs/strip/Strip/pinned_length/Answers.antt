use Rattle.std.proofs.Common.{◌∙◌}
use Rattle.loop_strip.proofs.StripLemmas.{pinned_length}
use Rattle.loop_strip.proofs.strip.Strip.pinned_length.Goals as goal

pub returns : goal.returns
returns c p = c.pinned_length.ensures ∙ pinned_length c.self.inside.parts c.args.self.now p
    c.self.view_is
