use Rattle.wav_pcm.proofs.TextLemmas.{one_wav}
use Rattle.wav_pcm.proofs.laws.wav_has_one_reading.Goals as goal

pub returns : goal.returns
returns c = one_wav
