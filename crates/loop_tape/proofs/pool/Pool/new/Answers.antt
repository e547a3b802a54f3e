use Rattle.std.proofs.Common.{rules}
use Rattle.loop_tape.proofs.PoolLemmas.{held_new}
use Rattle.loop_tape.proofs.pool.Pool.new.Goals as goal

pub invariant_of-result : goal.invariant_of-result
invariant_of-result c = record {
  holds = rw (c.in-Ok.ensures.items, c.in-Ok-with_capacity.ensures.items)
      (held_new c.args.chunks (search rules));
  room = search rules;
  given_room = search rules;
}
