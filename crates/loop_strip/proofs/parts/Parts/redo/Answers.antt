use Rattle.std.proofs.Common.{rules, ◌≤◌, length}
use Rattle.loop_strip.proofs.Whole.{whole_redone}
use Rattle.loop_strip.proofs.parts.Parts.redo.Goals as goal

pub returns-then-sizes-gt0-clause-whole : goal.returns-then-sizes-gt0-clause-whole
returns-then-sizes-gt0-clause-whole c =
    let some : 1 ≤ length c.args.self.now.layers.stack.redo = search rules in
    whole_redone c.args.self.now c.step_on.new.self c.requires.whole some (search rules)
    c.step_on.ensures.ok c.step_on.ensures.closed c.step_on.ensures.pinned
