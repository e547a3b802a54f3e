use Rattle.std.proofs.Common.{arith, sym, ap, ◌∙◌, length}
use Rattle.std.proofs.lemmas.List.{length-take-le}
use Rattle.wav_pcm.proofs.format.write_header.Goals as goal

pub copy_from_slice-requires : goal.copy_from_slice-requires
copy_from_slice-requires c = length-take-le 12 c.args.out.now (omega arith)
    ∙ sym (ap length c.riff_header.ensures)
