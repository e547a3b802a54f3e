use Rattle.std.proofs.Common.{ap, length, drop, arith}
use Rattle.wav_pcm.specs.Inputs.{InputOf}
use Rattle.wav_pcm.proofs.InputLemmas.{length-frames_in}
use Rattle.wav_pcm.proofs.input.Input.read.Goals as goal

pub read_at-requires-clause-within : goal.read_at-requires-clause-within
read_at-requires-clause-within c =
    let form = c.self.inside.form in
    omega (
      arith,
      c.requires,
      ap (λ (i : InputOf). length i.frames) c.self.view_is,
      length-frames_in
          form.channels form.bits form.count (drop form.start c.self.inside.bytes.items),
    )
