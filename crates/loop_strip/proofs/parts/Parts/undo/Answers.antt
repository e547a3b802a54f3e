use Rattle.loop_strip.proofs.Whole.{whole_undone}
use Rattle.loop_strip.proofs.parts.Parts.undo.Goals as goal

pub returns-clause-whole : goal.returns-clause-whole
returns-clause-whole c =
    whole_undone c.args.self.now c.settle.new.self c.step_back.new.self c.requires.whole
    c.settle.ensures.whole c.settle.ensures.ok c.step_back.ensures.ok c.step_back.ensures.closed
    c.step_back.ensures.pinned
