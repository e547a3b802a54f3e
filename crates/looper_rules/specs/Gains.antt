-- A gain is a number of thousandths, from 0 to 1000. At each frame it moves toward its target by at
-- most fade_step. Each loop's heard frame is scaled by the loop's gain, the input by the dry gain,
-- and the sum of all is clamped once.
-- "Gains and the mix" in docs/rules.md.
use Rattle.std.specs.Prelude.{ℕ, ◌+◌, ◌-◌, min, max, List, [], ◌∷◌, nat_le, if◌then◌else◌}
use Rattle.sl_base.specs.Sounds.{Sound, silence, summed, clamped_sound, scaled_sound}

-- a gain one frame later
abbrev pub gain_after : ℕ → ℕ → ℕ → ℕ
gain_after gain target step = if nat_le gain target then min target (gain + step) else
    max target (gain - step)

-- the sum of these sounds
abbrev pub sum_of : List Sound → Sound
sum_of [] = silence
sum_of (s ∷ ss) = summed s (sum_of ss)

-- what is put out for an input, at this dry gain, beside what the loops give
abbrev pub output_of : Sound → ℕ → List Sound → Sound
output_of input dry given = clamped_sound (summed (sum_of given) (scaled_sound input dry))
