use Rattle.loop_strip.proofs.FrameLemmas.{did_awake, whole_awake}
use Rattle.loop_strip.proofs.parts.Parts.wake.Goals as goal

pub returns-clause-did : goal.returns-clause-did
returns-clause-did c =
    did_awake c.args.frame.now c.is_loud-loud.result c.args.self.now c.wake_in.new.self
    c.args.pool.now c.wake_in.new.pool c.is_loud-loud.ensures c.wake_in.ensures.did

pub returns-clause-whole : goal.returns-clause-whole
returns-clause-whole c =
    whole_awake c.args.frame.now c.args.self.now c.wake_in.new.self c.args.pool.now
    c.wake_in.new.pool c.requires.whole (returns-clause-did c) c.wake_in.ensures.pinned
    c.wake_in.ensures.writing
