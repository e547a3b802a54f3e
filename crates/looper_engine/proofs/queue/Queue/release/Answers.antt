use Rattle.std.proofs.Common.{rules, ◌≡◌, ◌≤◌, length, sym, ap, subst, arith}
use Rattle.sl_base.specs.Limits.{max_loops}
use Rattle.std.specs.Vec.{vec_capacity}
use Rattle.looper_engine.specs.Queues.{QueueOf}
use Rattle.looper_engine.proofs.QueueLemmas.{released_all, released_queue}
use Rattle.looper_engine.proofs.queue.Queue.release.Goals as goal

pub invariant_of-self : goal.invariant_of-self
invariant_of-self c =
    let fewer = c.loop-index.invariant.0.no_more
    in let same = c.loop-index.invariant.1.same_saves
    in let long : length c.loop-index.self-inside.sending.items ≡ length
    c.self.inside.sending.items = ap (λ v. length v.items) same
    in let view : length c.self.inside.due.items ≡ length c.args.self.now.due =
    ap (λ (q : QueueOf). length q.due) c.self.view_is
    in let few = c.self.invariant.few
    in record {
      due_room = c.loop-index.invariant.0.reserved;
      sending_room = subst (λ v. max_loops ≤ vec_capacity v) (sym same)
          c.self.invariant.sending_room;
      few = omega arith;
    }

pub returns : goal.returns
returns c =
    let past : length c.loop-index.self-inside.due.items ≤ c.loop-index.index = search rules
    in released_queue c.args.target _ _ c.self.inside.sending.items c.self.inside.due.items _
    c.self.inside.part c.args.self.now c.self.view_is
    (released_all c.args.target c.loop-index.index c.loop-index.self-inside.due.items
    c.args.self.now.due c.loop-index.invariant.0.leaves past)
    (ap (λ v. v.items) c.loop-index.invariant.1.same_saves) c.loop-index.invariant.1.same_part
