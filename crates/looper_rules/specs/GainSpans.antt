-- Over a span of frames a gain moves toward one target, frame by frame, and scales each frame by
-- where it then stands. The sums of a span are made frame by frame, and each is clamped once, when
-- all have been added.
-- "Gains and the mix" in docs/rules.md.
use Rattle.std.specs.Prelude.{ℕ, List, [], ◌∷◌}
use Rattle.sl_base.specs.Sounds.{Sound, summed, scaled_sound}
use Rattle.looper_rules.specs.Gains.{gain_after}

-- a gain behind these frames
abbrev pub gain_over : ℕ → ℕ → List Sound → ℕ → ℕ
gain_over target step [] gain = gain
gain_over target step (s ∷ ss) gain = gain_over target step ss (gain_after gain target step)

-- these frames, each scaled by the gain as it then stands
abbrev pub scaled_over : ℕ → ℕ → List Sound → ℕ → List Sound
scaled_over target step [] gain = []
scaled_over target step (s ∷ ss) gain =
    let now = gain_after gain target step
    in scaled_sound s now ∷ scaled_over target step ss now

-- sums, frame by frame, with one sound more in each
abbrev pub added : List Sound → List Sound → List Sound
added [] given = []
added (s ∷ sums) [] = []
added (s ∷ sums) (g ∷ given) = summed s g ∷ added sums given

-- sums with a list of sounds more for each giver
abbrev pub added_all : List Sound → List (List Sound) → List Sound
added_all sums [] = sums
added_all sums (given ∷ others) = added_all (added sums given) others
