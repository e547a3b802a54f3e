use Rattle.std.proofs.Common.{arith}
use Rattle.std.proofs.lemmas.Grind.{common_steps}
use Rattle.midi_bindings.proofs.give.set_of.Goals as goal

pub returns-in-None-clause-only : goal.returns-in-None-clause-only
returns-in-None-clause-only c target control low high spelled =
    let same = spelled.0 in
    c.in-None.ensures.only high spelled.1.2 (grind (arith, common_steps))
