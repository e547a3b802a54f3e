use Rattle.std.proofs.Common.{refl}
use Rattle.loop_strip.proofs.ActLemmas.{did_held}
use Rattle.loop_strip.proofs.parts.Parts.hold.Goals as goal

pub returns-clause-did : goal.returns-clause-did
returns-clause-did c =
    did_held c.args.press c.args.self.now
    (record c.args.self.now { deck = record c.args.self.now.deck { press = c.args.press } })
    c.args.pool.now c.requires.owns refl c.facts.ensures refl
