use Rattle.midi_bindings.proofs.SweepLemmas.{looked_up_may}
use Rattle.midi_bindings.proofs.laws.what_is_bound_may_be_played.Goals as goal

pub returns : goal.returns
returns c loops bindings event command are is gives =
    looked_up_may loops bindings event command are.valid is gives
