use Rattle.std.proofs.Common.{◌*◌, ◌≤◌, arith}
use Rattle.std.proofs.Math.Nat.{mul-le-mul}
use Rattle.wav_pcm.specs.WavText.{frame_size}
use Rattle.wav_pcm.proofs.WavTextLemmas.{frame_size_within}
use Rattle.wav_pcm.proofs.format.format_chunk.Goals as goal

pub overflow_mul-rate : goal.overflow_mul-rate
overflow_mul-rate c =
    let within = frame_size_within c.args.channels c.args.bits c.requires.format in
    let bound : c.args.rate * frame_size c.args.channels c.args.bits ≤ 768000 * 6 =
    mul-le-mul c.requires.rate_within within in
    omega arith
