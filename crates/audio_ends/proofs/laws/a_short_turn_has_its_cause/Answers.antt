use Rattle.audio_ends.proofs.StateLemmas.{short_has_cause}
use Rattle.audio_ends.proofs.laws.a_short_turn_has_its_cause.Goals as goal

pub returns : goal.returns
returns c = short_has_cause
