use Rattle.std.proofs.Common.{subst}
use Rattle.looper_rules.specs.Loop.{with_stack}
use Rattle.looper_rules.specs.Saves.{unpinned}
use Rattle.loop_strip.specs.Strips.{StripOf, DidAlone}
use Rattle.loop_strip.specs.Parts.{strip_of}
use Rattle.loop_strip.proofs.strip.Strip.release.Goals as goal

pub returns : goal.returns
returns c = subst (λ (t : StripOf). DidAlone (λ reach l. with_stack (unpinned l.stack) l) t
    (strip_of c.release_pin.new.self)) c.self.view_is c.release_pin.ensures.did
