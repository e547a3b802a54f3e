use Rattle.std.proofs.Common.{◌≡◌, length, arith, rules}
use Rattle.std.specs.Prelude.{Err}
use Rattle.journal_run.specs.Performing.{played_before}
use Rattle.journal_run.proofs.PlayLemmas.{frames_played}
use Rattle.journal_run.proofs.EndLemmas.{ends}
use Rattle.journal_run.proofs.ending.run_all.Goals as goal

pub returns-in_err-turns-clause-come : goal.returns-in_err-turns-clause-come
returns-in_err-turns-clause-come g c =
    let passed : c.from_residual.result ≡ Err c.in_err-turns.field-0.0 = search rules in
    λ b start playable come. rw passed (c.in_err-turns.ensures.come b start playable come)

pub finish-requires-clause-spelled : goal.finish-requires-clause-spelled
finish-requires-clause-spelled g c =
    let going = c.requires.coming in
    (c.in_ok-turns.ensures.come going.beginning going.start going.playable going.come).spelled

pub finish-requires-clause-within : goal.finish-requires-clause-within
finish-requires-clause-within g c =
    let es = c.args.entries.now in
    let count = length c.args.input.now.frames in
    let going = c.requires.coming in
    let on = c.in_ok-turns.ensures.come going.beginning going.start going.playable going.come in
    let here = frames_played g.P.Keeper going.beginning es c.args.input.now going.start
    (played_before count es (length es)) (length es) c.turns.new.keeper c.turns.new.run
    (omega arith) on in
    omega (arith, here)

pub returns-clause-come : goal.returns-clause-come
returns-clause-come g c =
    λ b start playable come.
    ends g.P.Keeper b c.args.entries.now c.args.input.now start c.turns.new.keeper c.turns.new.run
    c.finish.new.run c.finish.result playable (c.in_ok-turns.ensures.come b start playable come)
    c.finish.ensures.ok c.finish.ensures.memory
