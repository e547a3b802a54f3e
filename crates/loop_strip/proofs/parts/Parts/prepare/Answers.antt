use Rattle.std.proofs.Common.{◌∙◌}
use Rattle.loop_strip.proofs.FrameLemmas.{did_ready, whole_ready, placed_ready}
use Rattle.loop_strip.proofs.parts.Parts.prepare.Goals as goal

pub returns-clause-did : goal.returns-clause-did
returns-clause-did c =
    did_ready c.args.frame.now c.args.self.now c.wake.new.self c.make_ready.new.self c.args.pool.now
    c.wake.new.pool c.wake.ensures.did c.make_ready.ensures.tape c.facts.ensures
    c.make_ready.ensures.ok

pub returns-clause-whole : goal.returns-clause-whole
returns-clause-whole c =
    whole_ready c.args.frame.now c.args.self.now c.make_ready.new.self c.args.pool.now
    c.wake.new.pool c.requires.whole (returns-clause-did c)
    (c.make_ready.ensures.pinned ∙ c.wake.ensures.pinned) c.make_ready.ensures.writing

pub returns-clause-placed : goal.returns-clause-placed
returns-clause-placed c = placed_ready c.args.frame.now c.args.self.now c.make_ready.new.self
    c.args.pool.now c.wake.new.pool c.requires.whole (returns-clause-did c)
