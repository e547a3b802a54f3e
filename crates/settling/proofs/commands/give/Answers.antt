use Rattle.std.specs.Prelude.{option_to_list}
use Rattle.engine_steps.specs.Engines.{entry_of}
use Rattle.engine_steps.proofs.ClearLemmas.{commands_clear_nothing}
use Rattle.settling.proofs.TakeLemmas.{command_by}
use Rattle.settling.proofs.commands.give.Goals as goal

pub take-reply-requires-clause-clears : goal.take-reply-requires-clause-clears
take-reply-requires-clause-clears g c =
    commands_clear_nothing (entry_of c.args.sender c.args.command c.args.engine.now)
    c.args.engine.now c.requires.two

pub returns : goal.returns
returns g c =
    record {
      goes = (
        option_to_list c.take-reply.result,
        c.tell_some.ensures,
        command_by c.args.sender c.args.command c.args.engine.now c.take-reply.new.self
            c.take-reply.result c.requires.two c.take-reply.ensures.took c.take-reply.ensures.reply,
      );
    }
