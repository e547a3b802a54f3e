use Rattle.std.proofs.Common.{rules, ap, ◌∙◌}
use Rattle.looper_rules.specs.Loop.{is_writing}
use Rattle.loop_strip.proofs.BudgetLemmas.{quiet_ample}
use Rattle.loop_strip.proofs.parts.Parts.quiet_writing.Goals as goal

pub returns-else-frames-eq0-clause-quiet : goal.returns-else-frames-eq0-clause-quiet
returns-else-frames-eq0-clause-quiet c =
    quiet_ample c.budget-frames.result c.args.self.now c.requires.whole
    (ap is_writing c.requires.is ∙ c.requires.writing) (search rules) c.budget-frames.ensures
