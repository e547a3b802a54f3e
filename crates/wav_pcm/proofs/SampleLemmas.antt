-- A sample of 16 bits, written and read.
use Rattle.std.proofs.Common.{◌≡◌, ℕ, ◌+◌, ◌*◌, ◌/◌, ◌%◌, ◌^◌, ◌<◌, sym, ap, ◌∙◌, arith}
use Rattle.std.proofs.lemmas.Int.{ints, to_z-of_z}
use Rattle.std.specs.Prelude.{ℤ, pos, negsuc}
use Rattle.std.specs.Int.{w16, cast_signed}
use Rattle.byteorder.specs.Endian.{little_number}
use mir.Val.{SFits}
use Rattle.sl_base.specs.Arithmetic.{IsSample, narrowed}
use Rattle.wav_pcm.proofs.WavTextLemmas.{cast_unsigned-w16}
use Rattle.wav_pcm.specs.WavText.{sample_bytes, twos_complement}

-- a sample divided by 256 is one of 16 bits
pub narrowed_fits : (sample : ℤ) → IsSample sample → SFits w16 (narrowed sample)
narrowed_fits (pos n) within = record { sfits = omega (arith, ints, within.1) }
narrowed_fits (negsuc n) within = record { sfits = omega (arith, ints, within.0) }

-- the bits of a sample of 16 bits are such a number
pub twos_complement_within : (sample : ℤ) → SFits w16 sample → twos_complement 16 sample < 2 ^ 16
twos_complement_within (pos n) fits = omega (arith, fits.sfits)
twos_complement_within (negsuc n) fits = omega arith

-- a sample's bits after it is divided by 256, read again
pub sample_of-bytes : (sample : ℤ) → IsSample sample →
    cast_signed w16 (little_number 2 (sample_bytes 16 sample)) ≡ narrowed sample
sample_of-bytes sample within =
    let fits = narrowed_fits sample within in
    let number : ℕ = twos_complement 16 (narrowed sample) in
    let number_fits : number < 2 ^ 16 = twos_complement_within (narrowed sample) fits in
    let again : number % 256 + 256 * (number / 256 % 256 + 256 * 0) ≡ number = omega arith in
    ap (cast_signed w16) again
    ∙ ap (cast_signed w16) (sym (cast_unsigned-w16 (narrowed sample)))
    ∙ to_z-of_z w16 (narrowed sample) fits
