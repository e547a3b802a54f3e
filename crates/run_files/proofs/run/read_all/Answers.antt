use Rattle.std.proofs.Common.{◌≡◌, rules, sym, subst}
use Rattle.std.specs.Prelude.{Result, Err}
use Rattle.session_file.specs.declared.loading.LoadFault.{LoadFault}
use Rattle.session_file.specs.Outcomes.{SaysOf}
use Rattle.run_files.specs.Named.{Named}
use Rattle.run_files.specs.AllFiles.{FirstBad}
use Rattle.run_files.specs.Readings.{ReadsAll}
use Rattle.run_files.specs.declared.run.RunFiles.{RunFiles}
use Rattle.run_files.proofs.ReadLemmas.{journal_is_bad}
use Rattle.run_files.proofs.run.read_all.Goals as goal

pub returns-in_err-entries-clause-value : goal.returns-in_err-entries-clause-value
returns-in_err-entries-clause-value g c =
    let named = c.sources.inside in
    let n : Named = record {
      input = named.input;
      session = named.session;
      loops = named.loops;
      journal = named.journal;
      chunks = named.chunks;
    } in
    let passed : c.from_residual-in_err-entries.result ≡ Err c.in_err-entries.field-0.0 =
    search rules in
    let told =
    subst (λ (m : Named). SaysOf (FirstBad (g.P.Keeper.files c.args.keeper.now) m)
    c.in_err-entries.field-0.0) c.sources.view_is
    (journal_is_bad _ _ _ n c.in_ok-input.input c.in_ok-settings.settings c.in_ok-settings.initial _
    _ _
    c.in_ok-input.ensures.reads.files c.in_ok-settings.ensures.reads.files c.rate.ensures.value
    c.loop_count.ensures.value
    c.in_ok-input.ensures.value c.in_ok-settings.ensures.value c.in_err-entries.ensures.value) in
    subst (λ (r : Result RunFiles LoadFault).
    ReadsAll (g.P.Keeper.files c.args.keeper.now) c.args.sources.now r) (sym passed) told
