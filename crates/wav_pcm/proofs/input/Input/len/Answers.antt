use Rattle.std.proofs.Common.{ap, ◌∙◌, sym, length, drop}
use Rattle.wav_pcm.specs.Inputs.{InputOf}
use Rattle.wav_pcm.proofs.InputLemmas.{length-frames_in}
use Rattle.wav_pcm.proofs.input.Input.len.Goals as goal

pub returns : goal.returns
returns c =
    let form = c.self.inside.form in
    sym (length-frames_in form.channels form.bits form.count
    (drop form.start c.self.inside.bytes.items))
    ∙ ap (λ (i : InputOf). length i.frames) c.self.view_is
