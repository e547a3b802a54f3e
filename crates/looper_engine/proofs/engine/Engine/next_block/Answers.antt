use Rattle.std.proofs.Common.{rules, ◌≤◌, length, subst, sym}
use Rattle.looper_engine.specs.Holding.{CanRead}
use Rattle.looper_engine.specs.declared.queue.Pending.{Pending}
use Rattle.looper_engine.proofs.ReadLemmas.{can_read}
use Rattle.looper_engine.proofs.SentLemmas.{next_is}
use Rattle.looper_engine.proofs.engine.Engine.next_block.Goals as goal

pub block_at-requires : goal.block_at-requires
block_at-requires c =
    let some : 1 ≤ length c.sending-sending.result.now = search rules
    in subst (λ (p : Pending). CanRead p.target c.self.inside.looper) (sym c.index-sending-0.is)
    (can_read c.self.inside.looper _ _ _ c.sending-sending.result.now c.index-sending-0.result
    c.self.invariant c.sending-sending.ensures some)

pub returns-clause-value : goal.returns-clause-value
returns-clause-value c =
    let some : 1 ≤ length c.sending-sending.result.now = search rules
    in next_is c.self.inside.looper _ _ _ c.args.self.now c.sending-sending.result.now
    c.index-sending-0.result c.index-sending-0.result c.part.result c.block_at.result
    c.self.view_is c.self.invariant
    c.sending-sending.ensures some c.index-sending-0.is c.part.ensures c.block_at.ensures
