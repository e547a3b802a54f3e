use Rattle.std.proofs.Common.{ap}
use Rattle.looper_rules.specs.Loop.{Controls}
use Rattle.loop_strip.proofs.StripLemmas.{controls_at}
use Rattle.loop_strip.proofs.strip.Strip.quantize.Goals as goal

pub returns : goal.returns
returns c = λ p. ap (λ (k : Controls). k.quantize)
    (controls_at c.self.inside.parts c.args.self.now p c.self.view_is)
