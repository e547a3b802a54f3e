use Rattle.std.proofs.Common.{◌≡◌, rules, sym, subst}
use Rattle.std.specs.Prelude.{Result, Err}
use Rattle.session_file.specs.declared.loading.LoadFault.{LoadFault}
use Rattle.session_file.specs.Outcomes.{SaysOf}
use Rattle.live_files.specs.LiveNamed.{LiveNamed}
use Rattle.live_files.specs.LiveReading.{FirstBadLive}
use Rattle.live_files.specs.LiveAnswers.{ReadsAllLive}
use Rattle.live_files.specs.declared.live.LiveFiles.{LiveFiles}
use Rattle.live_files.proofs.LiveLemmas.{bindings_are_bad}
use Rattle.live_files.proofs.live.read_all.Goals as goal

pub returns-in_err-bindings-clause-value : goal.returns-in_err-bindings-clause-value
returns-in_err-bindings-clause-value g c =
    let named = c.sources.inside in
    let n : LiveNamed = record {
      session = named.session;
      bind = named.bind;
      rate = named.rate;
      loops = named.loops;
      chunks = named.chunks;
    } in
    let passed : c.from_residual-in_err-bindings.result ≡ Err c.in_err-bindings.field-0.0 =
    search rules in
    let told =
    subst (λ (m : LiveNamed). SaysOf (FirstBadLive (g.P.Keeper.files c.args.keeper.now) m)
    c.in_err-bindings.field-0.0) c.sources.view_is
    (bindings_are_bad _ _ n c.in_ok-settings.settings c.in_ok-settings.initial _ _
    c.in_ok-settings.ensures.reads.files c.loop_count.ensures.value c.in_ok-settings.ensures.value
    c.in_err-bindings.ensures.value) in
    subst (λ (r : Result LiveFiles LoadFault).
    ReadsAllLive (g.P.Keeper.files c.args.keeper.now) c.args.sources.now r) (sym passed) told
