use Rattle.std.proofs.Common.{ℕ, ◌≡◌, ◌*◌, ◌∙◌, ap, arith, length, refl}
use Rattle.std.proofs.lemmas.List.{length-take-le}
use Rattle.wav_pcm.specs.WavText.{samples, samples_size, wav_header}
use Rattle.wav_pcm.proofs.WavTextLemmas.{text_written, length-samples}
use Rattle.wav_pcm.proofs.text.write_text.Goals as goal

pub slice_bounds-write_header-end-2 : goal.slice_bounds-write_header-end-2
slice_bounds-write_header-end-2 c = omega (arith, length-take-le 44 c.args.out.now (omega arith))

pub write_header-requires-clause-room : goal.write_header-requires-clause-room
write_header-requires-clause-room c = length-take-le 44 c.args.out.now (omega arith)

pub returns : goal.returns
returns c =
    let size : ℕ = samples_size (length c.args.frames.now) c.args.channels c.args.bits in
    let size_is : length c.args.frames.now * c.frame_size.result ≡ size =
    ap (λ (one : ℕ). length c.args.frames.now * one) c.frame_size.ensures in
    text_written (wav_header size c.args.channels c.args.bits c.args.rate)
    (samples c.args.channels c.args.bits c.args.frames.now) c.args.out.now
    c.write_header.new.out c.write_samples.new.out c.fill.new.self size _
    (c.write_header.ensures ∙ ap (λ (n : ℕ). wav_header n c.args.channels c.args.bits c.args.rate)
    size_is) c.write_samples.ensures size_is
    refl
    (length-samples c.args.channels c.args.bits c.args.frames.now c.requires.format)
    c.requires.room
    (c.fill.ensures.after (λ y h. h))
