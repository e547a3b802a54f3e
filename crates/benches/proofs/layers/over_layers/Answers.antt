use Rattle.std.proofs.Common.{arith, ◌≡◌, ◌≤◌}
use Rattle.std.proofs.lemmas.Grind.{common_steps}
use Rattle.benches.proofs.OwnLemmas.{idle-new}
use Rattle.benches.proofs.layers.over_layers.Goals as goal

pub all-requires-clause-idle : goal.all-requires-clause-idle
all-requires-clause-idle c = idle-new c.in-Ok-new.layers c.fill.new.self 32768 c.in-Ok-new.ensures
    (grind (arith, common_steps, c.fill.ensures, c.in-Ok.ensures.all, c.min-chunks.ensures))
