use Rattle.std.proofs.Common.{subst}
use Rattle.loop_strip.specs.Strips.{StripOf}
use Rattle.loop_strip.specs.Quiet.{IsQuietFor}
use Rattle.loop_strip.proofs.strip.Strip.quiet.Goals as goal

pub returns-clause-quiet : goal.returns-clause-quiet
returns-clause-quiet c =
    subst (λ (t : StripOf). IsQuietFor c.quiet.result t) c.self.view_is c.quiet.ensures.quiet
