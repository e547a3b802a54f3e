use Rattle.whole_looper.proofs.LooperLemmas.{settings_as}
use Rattle.whole_looper.proofs.looper.Looper.settings.Goals as goal

pub invariant_of-result : goal.invariant_of-result
invariant_of-result c =
    settings_as _ _ _ _ _ _ _ _ c.self.view_is c.requires.reached c.loops.ensures.value
    c.settings.ensures
