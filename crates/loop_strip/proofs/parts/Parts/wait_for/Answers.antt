use Rattle.std.proofs.Common.{refl}
use Rattle.loop_strip.proofs.ActLemmas.{did_waits}
use Rattle.loop_strip.proofs.parts.Parts.wait_for.Goals as goal

pub returns-clause-did : goal.returns-clause-did
returns-clause-did c =
    did_waits c.args.verb c.args.self.now
    (record c.args.self.now { deck = record c.args.self.now.deck { waiting = c.args.verb } })
    c.args.pool.now c.requires.owns refl c.facts.ensures refl
