use Rattle.std.proofs.Common.{rules, ◌<◌, subst, sym}
use Rattle.looper_engine.specs.EngineParts.{IsEngine}
use Rattle.looper_engine.proofs.ReadLemmas.{can_read, some_sending}
use Rattle.looper_engine.proofs.SentLemmas.{part_within, sent_is, sent_keeps, sent_steps}
use Rattle.looper_engine.proofs.engine.Engine.block_sent.Goals as goal

pub block_total-total-requires : goal.block_total-total-requires
block_total-total-requires c =
    let some = some_sending _ _ _ _ c.args.self.now c.sending.result.now c.self.view_is
    c.sending.ensures c.requires
    in can_read c.self.inside.looper _ _ _ c.sending.result.now c.index-sending-0.result
    c.self.invariant c.sending.ensures some

pub seek_block-requires : goal.seek_block-requires
seek_block-requires c =
    let some = some_sending _ _ _ _ c.args.self.now c.sending.result.now c.self.view_is
    c.sending.ensures c.requires
    in can_read c.self.inside.looper _ _ _ c.sending.result.now c.index-sending-0.result
    c.self.invariant c.sending.ensures some

pub overflow_add-part : goal.overflow_add-part
overflow_add-part c =
    let some = some_sending _ _ _ _ c.args.self.now c.sending.result.now c.self.view_is
    c.sending.ensures c.requires
    in let less : c.self.inside.queue.part < c.block_total-total.result =
    part_within c.self.inside.looper _ _ _ c.sending.result.now c.index-sending-0.result
    c.block_total-total.result c.self.invariant c.sending.ensures some c.block_total-total.ensures
    in let part = c.part.ensures
    in let top = c.block_total-total.type_inv
    in search rules

pub block_sent-requires : goal.block_sent-requires
block_sent-requires c =
    let some = some_sending _ _ _ _ c.args.self.now c.sending.result.now c.self.view_is
    c.sending.ensures c.requires
    in record {
      within =
          part_within c.self.inside.looper _ _ _ c.sending.result.now c.index-sending-0.result
          c.block_total-total.result c.self.invariant c.sending.ensures some
          c.block_total-total.ensures;
    }

pub invariant_of-self : goal.invariant_of-self
invariant_of-self c =
    let some = some_sending _ _ _ _ c.args.self.now c.sending.result.now c.self.view_is
    c.sending.ensures c.requires
    in let is = sent_is c.self.inside.looper _ _ _ _ _ c.args.self.now c.sending.result.now
    c.index-sending-0.result _ c.self.view_is c.seek_block.ensures c.sending.ensures some
    c.block_total-total.ensures c.block_sent.ensures
    in subst IsEngine (sym is)
    (sent_keeps c.args.self.now (subst IsEngine c.self.view_is c.self.invariant))

pub returns-clause-sent : goal.returns-clause-sent
returns-clause-sent c =
    let some = some_sending _ _ _ _ c.args.self.now c.sending.result.now c.self.view_is
    c.sending.ensures c.requires
    in sent_is c.self.inside.looper _ _ _ _ _ c.args.self.now c.sending.result.now
    c.index-sending-0.result _ c.self.view_is c.seek_block.ensures c.sending.ensures some
    c.block_total-total.ensures c.block_sent.ensures

pub returns-clause-in_step : goal.returns-clause-in_step
returns-clause-in_step c =
    let some = some_sending _ _ _ _ c.args.self.now c.sending.result.now c.self.view_is
    c.sending.ensures c.requires
    in sent_steps c.args.self.now _
    (sent_is c.self.inside.looper _ _ _ _ _ c.args.self.now c.sending.result.now
    c.index-sending-0.result _ c.self.view_is c.seek_block.ensures c.sending.ensures some
    c.block_total-total.ensures c.block_sent.ensures)
