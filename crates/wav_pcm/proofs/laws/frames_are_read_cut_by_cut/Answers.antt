use Rattle.wav_pcm.proofs.CutLemmas.{frames_in-append}
use Rattle.wav_pcm.proofs.laws.frames_are_read_cut_by_cut.Goals as goal

pub returns : goal.returns
returns c = frames_in-append
