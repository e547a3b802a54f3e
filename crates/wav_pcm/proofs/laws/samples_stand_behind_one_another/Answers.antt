use Rattle.std.proofs.lemmas.Grind.{flat_map-append}
use Rattle.wav_pcm.specs.WavText.{frame_bytes}
use Rattle.wav_pcm.proofs.laws.samples_stand_behind_one_another.Goals as goal

pub returns : goal.returns
returns c = λ channels bits. flat_map-append (frame_bytes channels bits)
