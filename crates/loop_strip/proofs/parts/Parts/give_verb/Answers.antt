use Rattle.loop_strip.proofs.ActLemmas.{did_given}
use Rattle.loop_strip.proofs.parts.Parts.give_verb.Goals as goal

pub returns-clause-did : goal.returns-clause-did
returns-clause-did c =
    did_given c.acts_at_once-now.result c.args.verb c.args.self.now c.give_as.new.self
    c.args.pool.now c.give_as.new.pool c.acts_at_once-now.ensures c.give_as.ensures.did
