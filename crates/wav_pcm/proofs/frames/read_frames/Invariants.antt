use Rattle.std.proofs.Common.{◌≡◌, ◌-◌, ◌*◌, ◌++◌, length, take, drop}
use Rattle.wav_pcm.specs.WavText.{frame_size}
use Rattle.wav_pcm.specs.Samples.{frames_in}
use Rattle.wav_pcm.proofs.frames.read_frames.Given as goal

abbrev pub invariant-frames : goal.invariant-frames
invariant-frames l =
    (length l.frames ≡ length l.fn.frames)
    × (take l.place l.frames
    ++ frames_in l.channels l.bits (length l.fn.frames - l.place)
    (drop (l.place * frame_size l.channels l.bits) l.bytes)
    ≡ frames_in l.channels l.bits (length l.fn.frames) l.bytes)
