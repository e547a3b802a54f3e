use Rattle.wav_pcm.proofs.WavTextLemmas.{length-wav_text}
use Rattle.wav_pcm.proofs.laws.size_of_text.Goals as goal

pub returns : goal.returns
returns c = λ frames channels bits rate format. length-wav_text frames channels bits rate format
