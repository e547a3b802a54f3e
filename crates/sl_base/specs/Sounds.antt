-- A frame is one moment's sample on both sides, left and right.
-- Every rule on frames is done for each side.
-- What contracts see of a frame is a sound: a pair of whole numbers.
-- "Frames and arithmetic" in docs/rules.md.
use Rattle.std.specs.Prelude.{ℕ, ℤ, pos, ◌+ℤ◌, max, unsigned_abs}
use Rattle.sl_base.specs.Arithmetic.{IsSample, clamped, scaled}

-- the two sides of one moment
pub record Sound : Type 0 where
  pub left : ℤ
  pub right : ℤ

-- both sides at zero
abbrev pub silence : Sound
silence = record { left = pos 0; right = pos 0 }

-- both sides at one number, as mono input gives them
abbrev pub both : ℤ → Sound
both z = record { left = z; right = z }

-- both sides are samples
abbrev pub IsFrame : Sound → Type 0
IsFrame s = IsSample s.left × IsSample s.right

-- the sum, side by side
abbrev pub summed : Sound → Sound → Sound
summed s t = record { left = s.left +ℤ t.left; right = s.right +ℤ t.right }

-- the nearest frame
abbrev pub clamped_sound : Sound → Sound
clamped_sound s = record { left = clamped s.left; right = clamped s.right }

-- so many thousandths of both sides
abbrev pub scaled_sound : Sound → ℕ → Sound
scaled_sound s level = record { left = scaled s.left level; right = scaled s.right level }

-- the greater of the absolute sides
abbrev pub loudness : Sound → ℕ
loudness s = max (unsigned_abs s.left) (unsigned_abs s.right)
