use Rattle.std.proofs.Common.{subst}
use Rattle.looper_rules.specs.Loop.{with_stack}
use Rattle.looper_rules.specs.Saves.{pinned}
use Rattle.loop_strip.specs.Strips.{StripOf, DidAlone}
use Rattle.loop_strip.specs.Parts.{strip_of}
use Rattle.loop_strip.proofs.strip.Strip.pin.Goals as goal

pub returns : goal.returns
returns c = subst (λ (t : StripOf). DidAlone (λ reach l. with_stack (pinned l.stack) l) t
    (strip_of c.pin.new.self)) c.self.view_is c.pin.ensures.did
