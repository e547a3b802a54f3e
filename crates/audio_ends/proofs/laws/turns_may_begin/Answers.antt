use Rattle.audio_ends.proofs.DidLemmas.{may_begin}
use Rattle.audio_ends.proofs.laws.turns_may_begin.Goals as goal

pub returns : goal.returns
returns c = may_begin
