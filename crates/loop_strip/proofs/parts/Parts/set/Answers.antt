use Rattle.std.proofs.Common.{ap, refl, w32}
use Rattle.std.proofs.lemmas.Int.{to_z-of_z}
use Rattle.looper_rules.specs.Loop.{Controls}
use Rattle.loop_strip.specs.Parts.{loop_of}
use Rattle.loop_strip.proofs.SavingLemmas.{did_set}
use Rattle.loop_strip.proofs.parts.Parts.set.Goals as goal

pub returns-clause-did : goal.returns-clause-did
returns-clause-did c =
    did_set c.args.control c.args.value c.args.self.now
    (record c.args.self.now { controls = c.set.new.self }) refl c.facts.ensures
    (λ reach. ap (λ (k : Controls). record (loop_of c.args.self.now) { controls = k })
    (rw (to_z-of_z w32 c.args.value c.ranges.value) at c.set.ensures))
