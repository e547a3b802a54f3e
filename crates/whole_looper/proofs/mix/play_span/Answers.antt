use Rattle.std.proofs.Common.{ap, sym, ◌∙◌, replicate}
use Rattle.sl_base.specs.Sounds.{silence}
use Rattle.whole_looper.proofs.MixLemmas.{span_done}
use Rattle.whole_looper.proofs.mix.play_span.Goals as goal

pub returns : goal.returns
returns c =
    span_done _ _ _ _ _ _ _ _ _ (c.clear_span.ensures.value
    ∙ ap (λ n. replicate n silence) (sym c.requires.sums)) c.play.ensures.tracks
    c.play.ensures.sums c.close_over.ensures.dry c.close_over.ensures.output
