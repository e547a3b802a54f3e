use Rattle.std.proofs.Common.{subst, sym}
use Rattle.looper_cli.specs.Endings.{KeepsCounts}
use Rattle.looper_cli.proofs.EndingLemmas.{done_ends, fault_ends, done_counts}
use Rattle.looper_cli.proofs.top.run_and_tell.Goals as goal

pub returns-in-Ok-clause-ends : goal.returns-in-Ok-clause-ends
returns-in-Ok-clause-ends g c =
    done_ends g.P.Keeper g.C.Sink _ c.args.keeper.now c.run.new.keeper c.args.console.now
    c.tell_done.new.console c.in-Ok.text c.as_str.result.now c.tell_done.result
    c.in-Ok.ensures.does c.as_str.ensures.value c.tell_done.ensures

pub returns-in-Err-clause-ends : goal.returns-in-Err-clause-ends
returns-in-Err-clause-ends g c =
    fault_ends g.P.Keeper g.C.Sink _ c.args.keeper.now c.run.new.keeper c.args.console.now
    c.tell_fault.new.console c.in-Err.fault c.tell_fault.result
    c.in-Err.ensures.does c.tell_fault.ensures.told c.tell_fault.ensures.status

pub returns-in-Ok-clause-counts : goal.returns-in-Ok-clause-counts
returns-in-Ok-clause-counts g c =
    done_counts g.P.Keeper g.C.Sink c.args.keeper.now c.run.new.keeper c.args.console.now
    c.tell_done.new.console c.as_str.result.now c.tell_done.result c.in-Ok.ensures.counts
    c.tell_done.ensures

pub returns-in-Err-clause-counts : goal.returns-in-Err-clause-counts
returns-in-Err-clause-counts g c =
    subst (KeepsCounts g.P.Keeper c.args.keeper.now c.run.new.keeper)
    (sym c.tell_fault.ensures.status) c.in-Err.ensures.counts
