use Rattle.std.proofs.Common.{rules, sym}
use Rattle.loop_tape.proofs.PoolLemmas.{held_taken, chunk_taken, held_begun, padded-begun, free_begins, chunk_begun, is_nil}
use Rattle.loop_tape.proofs.pool.Pool.take.Goals as goal

pub invariant_of-self : goal.invariant_of-self
invariant_of-self c = record {
  holds = held_taken c.self.inside.store.items c.pop.new.self.items c.self.inside.begun
      c.self.inside.all c.in-Some.chunk (rw c.in-Some.ensures.items at c.self.invariant.holds);
  room = search rules;
  given_room = search rules;
}

pub returns-in-Some-clause-taken : goal.returns-in-Some-clause-taken
returns-in-Some-clause-taken c =
    let h = chunk_taken c.self.inside.store.items c.pop.new.self.items c.self.inside.begun
    c.self.inside.all c.in-Some.chunk (rw c.in-Some.ensures.items at c.self.invariant.holds) in
    record { inside = h.0; taken = h.1 }

pub invariant_of-self-2 : goal.invariant_of-self-2
invariant_of-self-2 c =
    record {
      holds = rw c.fill_to.ensures.items
          (held_begun c.self.inside.store.items c.self.inside.given.items c.pop.new.self.items
          c.self.inside.begun c.self.inside.all c.self.invariant.holds c.if-self.false
          (is_nil _ (search rules)) (is_nil _ (search rules)));
      room = search rules;
      given_room = search rules;
    }

pub returns-clause-store : goal.returns-clause-store
returns-clause-store c =
    rw (c.fill_to.ensures.items, sym c.self.view_is)
    (padded-begun c.self.inside.store.items c.self.inside.begun c.self.inside.all
    c.self.invariant.holds.within c.if-self.false)

pub returns-clause-free : goal.returns-clause-free
returns-clause-free c =
    rw (sym c.self.view_is)
    (free_begins c.self.inside.given.items c.pop.new.self.items c.self.inside.begun
    c.self.inside.all c.self.invariant.holds.within c.if-self.false (is_nil _ (search rules))
    (is_nil _ (search rules)))

pub returns-clause-taken : goal.returns-clause-taken
returns-clause-taken c =
    let h = chunk_begun c.self.inside.store.items c.self.inside.given.items c.pop.new.self.items
    c.self.inside.begun c.self.inside.all c.self.invariant.holds c.if-self.false
    (is_nil _ (search rules)) (is_nil _ (search rules)) in
    record { inside = h.0; taken = h.1 }
