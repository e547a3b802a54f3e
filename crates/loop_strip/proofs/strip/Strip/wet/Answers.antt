use Rattle.std.proofs.Common.{ap}
use Rattle.looper_rules.specs.Loop.{Controls}
use Rattle.loop_strip.proofs.StripLemmas.{controls_at}
use Rattle.loop_strip.proofs.strip.Strip.wet.Goals as goal

pub returns-clause-value : goal.returns-clause-value
returns-clause-value c = λ p.
    ap (λ (k : Controls). k.wet) (controls_at c.self.inside.parts c.args.self.now p c.self.view_is)
