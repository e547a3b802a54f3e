use Rattle.std.proofs.Common.{◌≡◌, ◌*◌, take}
use Rattle.wav_pcm.specs.WavText.{frame_size, samples}
use Rattle.wav_pcm.proofs.samples.write_samples.Given as goal

abbrev pub invariant-frames : goal.invariant-frames
invariant-frames l = take (l.place * frame_size l.channels l.bits) l.out ≡ samples l.channels l.bits
    (take l.place l.frames)
