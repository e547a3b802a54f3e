use Rattle.wav_pcm.proofs.TextLemmas.{rate_0}
use Rattle.wav_pcm.proofs.laws.rate_0_is_not_supported.Goals as goal

pub returns : goal.returns
returns c = rate_0
