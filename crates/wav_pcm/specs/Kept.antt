-- A frame that is written and read again is what its form keeps of it: 16 bits of a sample in a
-- form of 16 bits, and the left side on both in one channel.
-- "WAV" in docs/formats.md.
use Rattle.std.specs.Prelude.{ℕ, ◌==◌, if◌then◌else◌, ℤ}
use Rattle.sl_base.specs.Arithmetic.{narrowed, widened}
use Rattle.sl_base.specs.Sounds.{Sound, both}

-- a sample as it is after it was written and read
abbrev pub kept_sample : ℕ → ℤ → ℤ
kept_sample bits sample = if bits == 16 then widened (narrowed sample) else sample

-- a frame as it is after it was written and read
abbrev pub kept : ℕ → ℕ → Sound → Sound
kept channels bits frame =
    if channels == 1 then both (kept_sample bits frame.left)
    else record { left = kept_sample bits frame.left; right = kept_sample bits frame.right }
