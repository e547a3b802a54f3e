use Rattle.whole_looper.proofs.MixLemmas.{span_of_looper}
use Rattle.whole_looper.proofs.looper.Looper.play.Goals as goal

pub returns : goal.returns
returns c = span_of_looper _ _ _ _ _ _ _ _ _ _ c.self.view_is c.play_span.ensures
