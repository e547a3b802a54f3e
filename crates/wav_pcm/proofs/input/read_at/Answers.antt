use Rattle.std.proofs.Common.{ap, ◌∙◌, ◌+◌, ◌*◌, length, drop}
use Rattle.wav_pcm.specs.Samples.{frames_in}
use Rattle.wav_pcm.proofs.InputLemmas.{span_read}
use Rattle.wav_pcm.proofs.input.read_at.Goals as goal

pub returns : goal.returns
returns c =
    let form = c.args.form in
    let count = length c.args.frames.now in
    c.read_frames.ensures
    ∙ ap (λ bytes. frames_in form.channels form.bits count bytes)
    (c.split_at.ensures.back ∙ ap (λ n. drop n c.args.bytes.now) c.place_of-place.ensures.value
    ∙ ap (λ size. drop (form.start + c.args.from * size) c.args.bytes.now)
    c.frame_size-size.ensures)
    ∙ span_read form.channels form.bits form.start form.count c.args.from count c.args.bytes.now
    c.requires.within
