use Rattle.audio_ends.proofs.StateLemmas.{state_has_cause}
use Rattle.audio_ends.proofs.laws.each_state_has_its_cause.Goals as goal

pub returns : goal.returns
returns c = state_has_cause
