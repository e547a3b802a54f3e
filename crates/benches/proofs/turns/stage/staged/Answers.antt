use Rattle.std.proofs.Common.{length, ap, arith}
use Rattle.benches.proofs.StageLemmas.{may_turn}
use Rattle.benches.proofs.turns.stage.staged.Goals as goal

pub invariant_of-result : goal.invariant_of-result
invariant_of-result c =
    let begins = c.requires.begins in
    let new = c.requires.new in (
      may_turn begins.0 65536 c.args.engine c.args.rings c.new.result.rings begins.1 begins.2
          begins.3 (omega arith) new c.new.ensures.rings,
      c.new.ensures.ready,
      ap length new.osc.sent,
      new.osc.put_limit,
    )
