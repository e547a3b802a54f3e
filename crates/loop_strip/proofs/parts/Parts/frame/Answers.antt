use Rattle.std.proofs.Common.{◌∙◌}
use Rattle.loop_strip.proofs.PassLemmas.{did_framed, whole_framed}
use Rattle.loop_strip.proofs.parts.Parts.frame.Goals as goal

pub returns-clause-did : goal.returns-clause-did
returns-clause-did c =
    did_framed c.args.frame.now c.is_writing.result c.args.self.now c.prepare.new.self
    c.pass_as.new.self c.args.pool.now c.prepare.new.pool c.pass_as.new.pool c.prepare.ensures.did
    c.is_writing.ensures c.pass_as.ensures.did

pub returns-clause-whole : goal.returns-clause-whole
returns-clause-whole c =
    whole_framed c.args.frame.now c.args.self.now c.pass_as.new.self c.args.pool.now
    c.pass_as.new.pool c.requires.whole (returns-clause-did c)
    (c.pass_as.ensures.pinned ∙ c.prepare.ensures.pinned) c.pass_as.ensures.writing
