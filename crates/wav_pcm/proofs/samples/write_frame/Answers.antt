use Rattle.std.proofs.Common.{◌/◌, ◌-◌, length, arith, rules, drop, inl, inr}
use Rattle.std.proofs.lemmas.Int.{to_z-of_z}
use Rattle.std.proofs.lemmas.List.{drop_all, length-drop}
use Rattle.std.specs.Int.{w32}
use mir.Val.{SFits}
use Rattle.wav_pcm.specs.WavText.{sample_bytes}
use Rattle.wav_pcm.proofs.WavTextLemmas.{pair_written, length-sample_bytes}
use Rattle.wav_pcm.proofs.samples.write_frame.Goals as goal

pub returns-then-channels-ne1 : goal.returns-then-channels-ne1
returns-then-channels-ne1 c =
    let fits_left : SFits w32 c.frame.inside.left = search rules in
    let fits_right : SFits w32 c.frame.inside.right = search rules in
    let first = rw (to_z-of_z w32 c.frame.inside.left fits_left) at c.write_sample.ensures in
    let second = rw (to_z-of_z w32 c.frame.inside.right fits_right) at
    c.write_sample-then-channels-ne1.ensures in
    elim c.requires.format.one_or_two [
      | inl one ↦ absurd (c.if-channels-ne1.true one)
      | inr two ↦ rw (← c.frame.view_is, two)
          (pair_written (c.args.bits / 8) (length c.write_sample.new.out - c.args.bits / 8)
          (sample_bytes c.args.bits c.frame.inside.left)
          (sample_bytes c.args.bits c.frame.inside.right)
          c.args.out.now c.write_sample.new.out c.write_sample-then-channels-ne1.new.out _
          (length-sample_bytes c.args.channels c.args.bits c.frame.inside.left c.requires.format)
          (length-sample_bytes c.args.channels c.args.bits c.frame.inside.right c.requires.format)
          first
          (omega (arith, length-drop (c.args.bits / 8) c.write_sample.new.out))
          second
          (drop_all (length c.write_sample.new.out - c.args.bits / 8)
          (drop (c.args.bits / 8) c.write_sample.new.out)
          (omega (arith, length-drop (c.args.bits / 8) c.write_sample.new.out))))
    ]
