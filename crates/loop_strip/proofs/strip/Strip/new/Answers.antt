use Rattle.loop_strip.specs.Parts.{strip_of}
use Rattle.loop_strip.proofs.StripLemmas.{seen_new}
use Rattle.loop_strip.proofs.strip.Strip.new.Goals as goal

pub returns-in-Ok-clause-seen : goal.returns-in-Ok-clause-seen
returns-in-Ok-clause-seen c =
    λ p. seen_new c.args.settings c.args.chunks (strip_of c.in-Ok.parts) p c.in-Ok.ensures.value
