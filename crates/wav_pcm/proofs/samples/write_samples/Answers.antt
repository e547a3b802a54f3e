use Rattle.std.proofs.Common.{◌*◌, ◌≤◌, length, arith}
use Rattle.std.proofs.Math.Nat.{mul-le-mul_right}
use Rattle.wav_pcm.specs.WavText.{frame_size}
use Rattle.wav_pcm.proofs.WavTextLemmas.{samples-more}
use Rattle.wav_pcm.proofs.samples.write_samples.Goals as goal

pub frames-preserved : goal.frames-preserved
frames-preserved c =
    let kept_length = c.frames.auto.out in
    let within : c.frames.place * frame_size c.args.channels c.args.bits ≤ length c.args.frames.now
    * frame_size c.args.channels c.args.bits =
    mul-le-mul_right (frame_size c.args.channels c.args.bits) (omega arith) in
    rw (c.frame_size-size.ensures, c.write_frame.ensures)
    (samples-more c.args.channels c.args.bits c.frames.place c.args.frames.now
    c.index-frames-place.result c.frames.out _ _ c.frames-test.true
    (omega (arith, within, c.requires.room)) c.requires.format c.index-frames-place.is
    c.frames.invariant)
