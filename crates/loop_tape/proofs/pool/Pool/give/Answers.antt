use Rattle.std.proofs.Common.{rules, sym}
use Rattle.loop_tape.proofs.PoolLemmas.{held_given}
use Rattle.loop_tape.proofs.pool.Pool.give.Goals as goal

pub invariant_of-self : goal.invariant_of-self
invariant_of-self c =
    let taken = rw (sym c.self.view_is) at c.requires.taken in
    let room = rw (sym c.self.view_is) at c.requires.room in
    record {
      holds = rw c.push_reserved.ensures.items
          (held_given c.self.inside.store.items c.self.inside.given.items c.self.inside.begun
          c.self.inside.all c.args.chunk c.self.invariant.holds taken.inside taken.taken room);
      room = search rules;
      given_room = search rules;
    }
