use Rattle.std.proofs.Common.{◌≡◌, ℕ, Err, rules, refl, sym, ap, ◌∙◌}
use Rattle.std.specs.declared.vec.Vec.{Vec}
use Rattle.std.specs.declared.alloc.Global.{Global}
use Rattle.sl_ports.specs.Files.{put_told}
use Rattle.run_files.specs.Readings.{told_of}
use Rattle.command_words.specs.Words.{RenderAsked}
use Rattle.console_lines.specs.declared.status.RunFault.TheVariants.{Memory as Lacking}
use Rattle.looper_cli.proofs.RenderLemmas.{unread_fails, played_so, unplayed, gave, unplayed_fails, untold_fails, run_is_done, out_is_left, unread_counts, unplayed_counts, lists_fit}
use Rattle.looper_cli.proofs.render.render.Goals as goal

pub returns-in-Err-clause-leaves : goal.returns-in-Err-clause-leaves
returns-in-Err-clause-leaves g c =
    unread_fails g.P.Keeper _ _ c.args.keeper.now c.read_run.new.keeper c.in-Err.fault
    c.fault_of.result c.sources_of.ensures.value
    c.in-Err.ensures.reads c.in-Err.ensures.value c.fault_of.ensures

pub returns-in-Err-played-clause-leaves : goal.returns-in-Err-played-clause-leaves
returns-in-Err-played-clause-leaves g c =
    let chunks = ap (λ (r : RenderAsked). r.chunks) c.asked.view_is in
    unplayed_fails g.P.Keeper c.args.asked.now _ (told_of c.in-Ok.files) c.args.keeper.now
    c.read_run.new.keeper c.play-played.new.keeper c.in-Err-played.fault
    c.play_fault_of.result c.sources_of.ensures.value c.in-Ok.ensures.reads c.in-Ok.ensures.value
    (played_so g.P.Keeper c.args.asked.now (told_of c.in-Ok.files) c.read_run.new.keeper
    c.play-played.new.keeper _ _ (unplayed c.in-Err-played.fault)
    c.as_slice.ensures chunks c.in-Err-played.ensures.value) c.play_fault_of.ensures

pub returns-in-Err-clause-counts : goal.returns-in-Err-clause-counts
returns-in-Err-clause-counts g c =
    unread_counts g.P.Keeper c.args.keeper.now c.read_run.new.keeper c.in-Err.fault
    c.fault_of.result c.in-Err.ensures.reads c.fault_of.ensures

pub play-played-requires-clause-room : goal.play-played-requires-clause-room
play-played-requires-clause-room g c =
    lists_fit c.args.asked.now _ _ _ c.sources_of.ensures.value
    (sym (ap (λ (r : RenderAsked). r.chunks) c.asked.view_is)) c.in-Ok.ensures.value.within.chunks

pub returns-in-Err-played-clause-counts : goal.returns-in-Err-played-clause-counts
returns-in-Err-played-clause-counts g c =
    unplayed_counts g.P.Keeper c.args.asked.now (told_of c.in-Ok.files) c.args.keeper.now
    c.read_run.new.keeper c.play-played.new.keeper c.in-Err-played.fault c.play_fault_of.result
    c.in-Ok.ensures.reads
    (played_so g.P.Keeper c.args.asked.now (told_of c.in-Ok.files) c.read_run.new.keeper
    c.play-played.new.keeper _ _ (unplayed c.in-Err-played.fault) c.as_slice.ensures
    (ap (λ (r : RenderAsked). r.chunks) c.asked.view_is) c.in-Err-played.ensures.value)
    c.play-played.ensures.reads c.play_fault_of.ensures

pub returns-in_err-told-clause-leaves : goal.returns-in_err-told-clause-leaves
returns-in_err-told-clause-leaves g c =
    let passed : c.from_residual.result ≡ Err c.in_err-told.field-0.0 = search rules in
    let wanted : c.in_err-told.field-0.0 ≡ Lacking = search rules in
    rw passed (rw wanted
    (untold_fails g.P.Keeper c.args.asked.now _ (told_of c.in-Ok.files) c.args.keeper.now
    c.read_run.new.keeper c.play-played.new.keeper
    c.in-Ok-played.performed c.sources_of.ensures.value c.in-Ok.ensures.reads c.in-Ok.ensures.value
    (played_so g.P.Keeper c.args.asked.now (told_of c.in-Ok.files) c.read_run.new.keeper
    c.play-played.new.keeper _ _ (gave c.in-Ok-played.performed)
    c.as_slice.ensures (ap (λ (r : RenderAsked). r.chunks) c.asked.view_is)
    c.in-Ok-played.ensures.value)))

pub returns-in-Done-clause-leaves : goal.returns-in-Done-clause-leaves
returns-in-Done-clause-leaves g c =
    let plays =
    played_so g.P.Keeper c.args.asked.now (told_of c.in-Ok.files) c.read_run.new.keeper
    c.play-played.new.keeper _ _ (gave c.in-Ok-played.performed)
    c.as_slice.ensures (ap (λ (r : RenderAsked). r.chunks) c.asked.view_is)
    c.in-Ok-played.ensures.value in (
      run_is_done g.P.Keeper c.args.asked.now _ (told_of c.in-Ok.files) c.args.keeper.now
          c.read_run.new.keeper c.play-played.new.keeper c.write_file.new.self
          c.in-Ok-played.performed c.deref.result.now _ c.sources_of.ensures.value
          c.in-Ok.ensures.reads c.in-Ok.ensures.value plays
          (c.deref.ensures.value ∙ ap (λ (v : Vec ℕ Global). v.items) c.told.ensures.out)
          c.in_ok-told.ensures.text
          (c.in-Done.ensures.value
          ∙ ap (λ (r : RenderAsked). put_told (g.P.Keeper.files c.play-played.new.keeper) r.out
          c.deref.result.now) c.asked.view_is),
      record {
        reads = c.write_file.ensures.reads ∙ c.play-played.ensures.reads
            ∙ c.in-Ok.ensures.reads.counts.stayed refl;
        writes = c.in-Done.ensures.counts.stayed refl ∙ plays.2.1 ∙ c.in-Ok.ensures.reads.writes;
      },
    )

pub returns-in-Failed-clause-leaves : goal.returns-in-Failed-clause-leaves
returns-in-Failed-clause-leaves g c =
    out_is_left g.P.Keeper c.args.asked.now _ (told_of c.in-Ok.files) c.args.keeper.now
    c.read_run.new.keeper c.play-played.new.keeper c.write_file.new.self c.in-Ok-played.performed
    c.sources_of.ensures.value c.in-Ok.ensures.reads c.in-Ok.ensures.value
    (played_so g.P.Keeper c.args.asked.now (told_of c.in-Ok.files) c.read_run.new.keeper
    c.play-played.new.keeper _ _ (gave c.in-Ok-played.performed) c.as_slice.ensures
    (ap (λ (r : RenderAsked). r.chunks) c.asked.view_is) c.in-Ok-played.ensures.value)
    c.in-Failed.ensures.value (c.in-Failed.ensures.counts.rose refl)
