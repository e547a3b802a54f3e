use Rattle.std.proofs.Common.{ap, ◌∙◌}
use Rattle.looper_engine.proofs.ReadLemmas.{reads_is}
use Rattle.looper_engine.specs.Steps.{step_at}
use Rattle.looper_engine.proofs.saving.step_for.Goals as goal

pub returns-clause-reads : goal.returns-clause-reads
returns-clause-reads c =
    reads_is c.args.target c.args.looper.now c.args.block c.step_at.result c.requires
    (c.step_at.ensures ∙ ap (λ lengths. step_at lengths c.args.block)
    (c.as_slice.ensures.value ∙ c.lengths_for-lengths.ensures.value))
