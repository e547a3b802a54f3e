use Rattle.std.proofs.Common.{refl}
use Rattle.looper_cli.proofs.EndingLemmas.{bad_file_always_ends, limit_always_ends, read_only_at_4, write_only_at_5, asked_not_at_2}
use Rattle.looper_cli.proofs.top.plain_run.Goals as goal

pub returns-in-Ok-clause-bad_file_always : goal.returns-in-Ok-clause-bad_file_always
returns-in-Ok-clause-bad_file_always g c =
    bad_file_always_ends g.P.Keeper g.C.Sink _ _ c.args.keeper.now c.run_and_tell.new.keeper
    c.args.console.now c.run_and_tell.new.console c.run_and_tell.result c.number.result
    (g.P.Keeper.files c.args.keeper.now) c.in-Ok.ensures c.run_and_tell.ensures.named refl
    c.run_and_tell.ensures.ends c.number.ensures

pub returns-in-Ok-clause-limit_always : goal.returns-in-Ok-clause-limit_always
returns-in-Ok-clause-limit_always g c =
    limit_always_ends g.P.Keeper g.C.Sink _ _ c.args.keeper.now c.run_and_tell.new.keeper
    c.args.console.now c.run_and_tell.new.console c.run_and_tell.result c.number.result
    (g.P.Keeper.files c.args.keeper.now) c.in-Ok.ensures c.run_and_tell.ensures.named refl
    c.run_and_tell.ensures.ends c.number.ensures

pub returns-in-Ok-clause-reads : goal.returns-in-Ok-clause-reads
returns-in-Ok-clause-reads g c =
    read_only_at_4 g.P.Keeper c.args.keeper.now c.run_and_tell.new.keeper c.run_and_tell.result
    c.number.result c.run_and_tell.ensures.counts c.number.ensures

pub returns-in-Ok-clause-writes : goal.returns-in-Ok-clause-writes
returns-in-Ok-clause-writes g c =
    write_only_at_5 g.P.Keeper c.args.keeper.now c.run_and_tell.new.keeper c.run_and_tell.result
    c.number.result c.run_and_tell.ensures.counts c.number.ensures

pub returns-in-Ok-clause-words_touch_nothing : goal.returns-in-Ok-clause-words_touch_nothing
returns-in-Ok-clause-words_touch_nothing g c =
    asked_not_at_2 g.P.Keeper g.C.Sink _ c.args.keeper.now c.run_and_tell.new.keeper
    c.args.console.now c.run_and_tell.new.console c.run_and_tell.result c.number.result
    c.run_and_tell.ensures.ends c.number.ensures
