use Rattle.std.proofs.Common.{◌≡◌, min, length, ap, ◌∙◌, sym, subst, arith, rules}
use Rattle.std.specs.Prelude.{Err}
use Rattle.save_feeding.specs.Feeding.{StopsAt}
use Rattle.loop_saver.specs.SavedFiles.{files_for_all}
use Rattle.engine_steps.specs.Engines.{first_looper}
use Rattle.save_feeding.specs.declared.stopped.Stopped.{Stopped}
use Rattle.journal_run.specs.Performing.{ran_over, played_before}
use Rattle.journal_run.proofs.PlayLemmas.{frames_played, has_room_at}
use Rattle.journal_run.proofs.TurnLemmas.{stop_now, entry_later, comes_to_entry, takes_or_stops}
use Rattle.journal_run.proofs.entries.turn.Goals as goal

pub play_to-requires-clause-spelled : goal.play_to-requires-clause-spelled
play_to-requires-clause-spelled g c = c.requires.coming.come.spelled

pub play_to-requires-clause-order : goal.play_to-requires-clause-order
play_to-requires-clause-order g c =
    let es = c.args.entries.now in
    let count = length c.args.input.now.frames in
    let going = c.requires.coming in
    let here = frames_played g.P.Keeper going.beginning es c.args.input.now going.start
    (played_before count es c.args.index) c.args.index c.args.keeper.now c.args.run.now
    (omega arith) going.come in
    let later = entry_later es count c.args.index (min c.index-entries-index.result.frame count)
    c.index-entries-index.result going.playable.stamped c.requires.inside c.index-entries-index.is
    (search rules) in
    omega (arith, here, later, c.frames_before.ensures, c.len.ensures)

pub returns-in_err-play_to-clause-come : goal.returns-in_err-play_to-clause-come
returns-in_err-play_to-clause-come g c =
    let passed : c.from_residual.result ≡ Err c.in_err-play_to.field-0.0 = search rules in
    λ b start playable come.
    let all = files_for_all b.settings.rate
    (ran_over c.args.entries.now c.args.input.now (first_looper b)).saves in
    rw passed
    (subst (λ (why : Stopped). StopsAt g.P.Keeper all start c.args.keeper.now why)
    (sym c.in_err-play_to.ensures.memory)
    (stop_now g.P.Keeper b c.args.entries.now c.args.input.now start c.args.index
    c.args.keeper.now c.args.run.now playable come))

pub take_entry-requires-clause-room : goal.take_entry-requires-clause-room
take_entry-requires-clause-room g c =
    let x = c.index-entries-index.result in
    let es = c.args.entries.now in
    let count = length c.args.input.now.frames in
    let going = c.requires.coming in
    let place : c.frames_before.result ≡ min x.frame count =
    c.frames_before.ensures ∙ ap (λ n. min x.frame n) c.len.ensures in
    let come = comes_to_entry g.P.Keeper going.beginning es c.args.input.now going.start
    c.args.index c.frames_before.result x c.args.keeper.now c.args.run.now c.play_to.new.run
    going.playable.stamped c.requires.inside c.index-entries-index.is place going.come
    c.in_ok-play_to.ensures.ok in
    has_room_at es count going.beginning.quota c.args.index x c.play_to.new.run.engine
    going.playable.room c.requires.inside c.index-entries-index.is come.entries come.quota

pub take_entry-requires-clause-step : goal.take_entry-requires-clause-step
take_entry-requires-clause-step g c =
    let x = c.index-entries-index.result in
    let count = length c.args.input.now.frames in
    let going = c.requires.coming in
    let place : c.frames_before.result ≡ min x.frame count =
    c.frames_before.ensures ∙ ap (λ n. min x.frame n) c.len.ensures in
    let come = comes_to_entry g.P.Keeper going.beginning c.args.entries.now c.args.input.now
    going.start c.args.index c.frames_before.result x c.args.keeper.now c.args.run.now
    c.play_to.new.run going.playable.stamped c.requires.inside c.index-entries-index.is place
    going.come c.in_ok-play_to.ensures.ok in
    record { beginning = going.beginning; so_far = come.so_far; step = come.step }

pub returns-clause-come : goal.returns-clause-come
returns-clause-come g c =
    let x = c.index-entries-index.result in
    let es = c.args.entries.now in
    let input = c.args.input.now in
    let until = c.frames_before.result in
    let place : until ≡ min x.frame (length input.frames) =
    c.frames_before.ensures ∙ ap (λ n. min x.frame n) c.len.ensures in
    λ b start playable come.
    let on = comes_to_entry g.P.Keeper b es input start c.args.index until x c.args.keeper.now
    c.args.run.now c.play_to.new.run playable.stamped c.requires.inside c.index-entries-index.is
    place come c.in_ok-play_to.ensures.ok in
    takes_or_stops g.P.Keeper b es input start until c.args.index x c.args.keeper.now
    c.take_entry.new.keeper c.play_to.new.run c.take_entry.new.run c.take_entry.result playable
    c.requires.inside c.index-entries-index.is place on c.take_entry.ensures.took
    c.take_entry.ensures.files
