use Rattle.std.proofs.Common.{◌≡◌, refl, rules}
use Rattle.std.specs.Prelude.{Ok, Err}
use Rattle.std.specs.String.{string_bytes}
use Rattle.journal_run.specs.Runs.{run_of}
use Rattle.journal_run.proofs.EndLemmas.{first_playable, first_come, ends_first, silent_spelled, performs}
use Rattle.journal_run.proofs.ending.perform.Goals as goal

pub run_all-requires : goal.run_all-requires
run_all-requires g c =
    let es = c.args.entries.now in
    let input = c.args.input.now in
    let first = c.requires.first in
    let spelled = silent_spelled input c.in_ok-buffers.buffers c.channels.result c.bits.result
    c.args.period c.in_ok-buffers.ensures c.channels.ensures.value c.bits.ensures in
    record {
      coming = record {
        beginning = first.beginning;
        playable = first_playable c.args.engine first es input c.requires.room
            c.requires.stamped c.requires.few c.requires.short;
        start = c.args.keeper.now;
        come = first_come g.P.Keeper c.args.engine first es input c.args.keeper.now
            (run_of c.args.engine c.new-saver.result c.in_ok-buffers.buffers
            c.in_ok-out.out.items (string_bytes c.new-text.result) 0) c.args.rate refl
            c.new-saver.ensures c.requires.rate spelled c.in_ok-out.ensures.ok
            c.new-text.ensures.bytes refl;
      };
    }

pub returns-in_err-run_all-clause-value : goal.returns-in_err-run_all-clause-value
returns-in_err-run_all-clause-value g c =
    let passed : c.from_residual-in_err-run_all.result ≡ Err c.in_err-run_all.field-0.0 =
    search rules in
    let es = c.args.entries.now in
    let input = c.args.input.now in
    let first = c.requires.first in
    let spelled = silent_spelled input c.in_ok-buffers.buffers c.channels.result c.bits.result
    c.args.period c.in_ok-buffers.ensures c.channels.ensures.value c.bits.ensures in
    let playable = first_playable c.args.engine first es input c.requires.room
    c.requires.stamped c.requires.few c.requires.short in
    let come = first_come g.P.Keeper c.args.engine first es input c.args.keeper.now
    (run_of c.args.engine c.new-saver.result c.in_ok-buffers.buffers c.in_ok-out.out.items
    (string_bytes c.new-text.result) 0) c.args.rate refl c.new-saver.ensures c.requires.rate spelled
    c.in_ok-out.ensures.ok c.new-text.ensures.bytes refl in
    rw passed
    (ends_first g.P.Keeper c.args.engine first es input c.args.keeper.now c.run_all.new.keeper
    c.run_all.new.run (Err c.in_err-run_all.field-0.0)
    (c.in_err-run_all.ensures.come first.beginning c.args.keeper.now playable come))

pub returns-clause-value : goal.returns-clause-value
returns-clause-value g c =
    let es = c.args.entries.now in
    let input = c.args.input.now in
    let first = c.requires.first in
    let spelled = silent_spelled input c.in_ok-buffers.buffers c.channels.result c.bits.result
    c.args.period c.in_ok-buffers.ensures c.channels.ensures.value c.bits.ensures in
    let playable = first_playable c.args.engine first es input c.requires.room
    c.requires.stamped c.requires.few c.requires.short in
    let come = first_come g.P.Keeper c.args.engine first es input c.args.keeper.now
    (run_of c.args.engine c.new-saver.result c.in_ok-buffers.buffers c.in_ok-out.out.items
    (string_bytes c.new-text.result) 0) c.args.rate refl c.new-saver.ensures c.requires.rate spelled
    c.in_ok-out.ensures.ok c.new-text.ensures.bytes refl in
    performs g.P.Keeper es input c.args.engine.looper c.args.keeper.now c.run_all.new.keeper
    c.run_all.new.run c.into_performed.result c.in_ok-run_all.field-0 c.into_performed.ensures.out
    c.into_performed.ensures.text
    (ends_first g.P.Keeper c.args.engine first es input c.args.keeper.now c.run_all.new.keeper
    c.run_all.new.run (Ok c.in_ok-run_all.field-0)
    (c.in_ok-run_all.ensures.come first.beginning c.args.keeper.now playable come))
