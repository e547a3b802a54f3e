use Rattle.std.proofs.Common.{refl, w32}
use Rattle.std.proofs.lemmas.Int.{to_z-of_z}
use Rattle.wav_pcm.proofs.FrameLemmas.{frame_of_two}
use Rattle.wav_pcm.proofs.frames.frame_at.Goals as goal

pub returns : goal.returns
returns c =
    let left = to_z-of_z w32 c.sample_at-left.result
    (record { sfits = c.sample_at-left.type_inv }) in
    let right = to_z-of_z w32 c.sample_at.result (record { sfits = c.sample_at.type_inv }) in
    rw (left, right)
    (frame_of_two c.args.channels c.args.bits c.args.bytes.now c.split_at.result.1.now
    c.sample_at-left.result c.sample_at.result _
    c.if-channels-eq1.false c.sample_at-left.ensures.value c.split_at.ensures.back
    c.sample_at.ensures.value refl)
