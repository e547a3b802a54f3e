use Rattle.std.proofs.Common.{rules, ◌≤◌, length}
use Rattle.looper_engine.proofs.ReadLemmas.{due_named}
use Rattle.looper_engine.proofs.engine.Engine.due.Goals as goal

pub returns-clause-within : goal.returns-clause-within
returns-clause-within c =
    let some : 1 ≤ length c.due-due.result.now = search rules
    in due_named _ _ _ _ c.args.self.now c.due-due.result.now c.index-due-0.result c.self.view_is
    c.self.invariant c.due-due.ensures some
