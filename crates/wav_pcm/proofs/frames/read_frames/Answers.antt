use Rattle.std.proofs.Common.{ℕ, ◌*◌, ◌∙◌, ap, arith, drop, length}
use Rattle.std.proofs.lemmas.List.{length-set}
use Rattle.wav_pcm.specs.Samples.{frame_at}
use Rattle.wav_pcm.proofs.FrameLemmas.{frames_in-more_set}
use Rattle.wav_pcm.proofs.frames.read_frames.Goals as goal

pub frames-preserved : goal.frames-preserved
frames-preserved c =
    let at = c.split_at.ensures.back ∙ ap (λ (n : ℕ). drop (c.frames.place * n) c.args.bytes.now)
    c.frame_size-size.ensures in
    let frame_is = c.frame_at.ensures ∙ ap (frame_at c.args.channels c.args.bits) at in (
      length-set c.frames.frames c.frames.place c.frame_at.result ∙ c.frames.invariant.0,
      frames_in-more_set c.args.channels c.args.bits (length c.args.frames.now) c.frames.place
          c.args.bytes.now c.frames.frames _ c.frame_at.result
          (omega (arith, c.frames-test.true, c.frames.invariant.0)) c.frames.invariant.0 frame_is
          c.frames.invariant.1,
    )
