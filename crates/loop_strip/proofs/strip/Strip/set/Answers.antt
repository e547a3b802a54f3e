use Rattle.std.proofs.Common.{subst, w32}
use Rattle.std.proofs.lemmas.Int.{to_z-of_z}
use Rattle.looper_rules.specs.Entries.{sets}
use Rattle.loop_strip.specs.Strips.{StripOf, DidAlone}
use Rattle.loop_strip.specs.Parts.{strip_of}
use Rattle.loop_strip.proofs.strip.Strip.set.Goals as goal

pub returns : goal.returns
returns c = subst (λ (t : StripOf).
    DidAlone (sets c.args.control c.args.value) t (strip_of c.set.new.self)) c.self.view_is
    (rw (to_z-of_z w32 c.args.value c.ranges.value) at c.set.ensures.did)
