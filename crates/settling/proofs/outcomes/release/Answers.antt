use Rattle.std.proofs.Common.{◌∙◌, sym}
use Rattle.std.specs.Prelude.{option_to_list}
use Rattle.settling.proofs.TakeLemmas.{release_due, release_room, due_clears_in, outcome_by}
use Rattle.settling.proofs.outcomes.release.Goals as goal

pub take-reply-requires-clause-room : goal.take-reply-requires-clause-room
take-reply-requires-clause-room g c =
    release_room c.args.engine.now c.in-Some.target c.requires.owed
    (sym c.due.ensures.value ∙ c.in-Some.is)

pub take-reply-requires-clause-clears : goal.take-reply-requires-clause-clears
take-reply-requires-clause-clears g c =
    due_clears_in c.args.engine.now c.in-Some.target c.args.outcome c.requires.owed
    (sym c.due.ensures.value ∙ c.in-Some.is)

pub unreachable-requires : goal.unreachable-requires
unreachable-requires g c =
    release_due c.args.engine.now c.requires.owed (sym c.due.ensures.value ∙ c.in-None.is)

pub returns : goal.returns
returns g c =
    record {
      goes = (
        option_to_list c.take-reply.result,
        c.tell_some.ensures,
        outcome_by c.in-Some.target c.args.outcome c.args.engine.now c.take-reply.new.self
            c.take-reply.result (sym c.due.ensures.value ∙ c.in-Some.is) c.in-Some.ensures.within
            c.requires.outcome c.take-reply.ensures.took c.take-reply.ensures.reply,
      );
    }
