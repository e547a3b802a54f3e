use Rattle.wav_pcm.proofs.TextLemmas.{text_is_wav}
use Rattle.wav_pcm.proofs.laws.wav_comes_back.Goals as goal

pub returns : goal.returns
returns c = text_is_wav
