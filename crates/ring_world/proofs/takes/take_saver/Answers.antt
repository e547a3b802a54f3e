use Rattle.std.proofs.Common.{rules, sym, ◌≡◌}
use Rattle.std.specs.Prelude.{None}
use Rattle.ring_world.specs.Rings.{passed_on}
use Rattle.ring_world.proofs.KeepLemmas.{due_of_any, release_room, release_of_due_clears, outcome_taken}
use Rattle.ring_world.proofs.takes.take_saver.Goals as goal

pub unreachable-requires : goal.unreachable-requires
unreachable-requires c =
    due_of_any c.args.lists.now c.in-Some.outcome.now c.requires (sym c.in-Some.ensures)
    (sym c.in-None.ensures.value)

pub take-answer-requires-clause-room : goal.take-answer-requires-clause-room
take-answer-requires-clause-room c =
    release_room c.args.lists.now c.in-Some-due.target c.requires (sym c.in-Some-due.ensures.value)

pub take-answer-requires-clause-clears : goal.take-answer-requires-clause-clears
take-answer-requires-clause-clears c =
    release_of_due_clears c.args.lists.now c.in-Some-due.target c.in-Some.outcome.now c.requires
    (sym c.in-Some-due.ensures.value)

pub returns : goal.returns
returns c =
    let free : c.args.lists.now.held ≡ None = search rules
    in let is = outcome_taken c.args.lists.now
    (record c.args.lists.now { saver = passed_on c.args.lists.now.saver }) c.in-Some-due.target
    c.in-Some.outcome.now free (sym c.in-Some.ensures) (sym c.in-Some-due.ensures.value)
    in rw is (search rules)
