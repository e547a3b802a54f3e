-- A sample is a whole number of 24 bits, from -8388608 to 8388607.
-- Sums are clamped: a number outside the range becomes the nearest number in it.
-- A level is a number of thousandths from 0 to 1000, and scaling by it divides toward zero.
-- A 16-bit sample is 256 times as much in 24 bits. Going back to 16 bits divides by 256, rounding
-- down.
-- "Frames and arithmetic" in docs/rules.md.
use Rattle.std.specs.Prelude.{ℕ, min, ℤ, pos, negsuc, ◌*ℤ◌, ◌≤ℤ◌, int_div}
use Rattle.std.specs.Int.{int_div_euclid}

-- a whole number of 24 bits
abbrev pub IsSample : ℤ → Type 0
IsSample z = (negsuc 8388607 ≤ℤ z) × (z ≤ℤ pos 8388607)

-- the sample nearest to a number
abbrev pub clamped : ℤ → ℤ
clamped (pos n) = pos (min n 8388607)
clamped (negsuc n) = negsuc (min n 8388607)

-- a number times so many thousandths, divided toward zero
abbrev pub scaled : ℤ → ℕ → ℤ
scaled z level = int_div (z *ℤ pos level) (pos 1000)

-- a 16-bit sample in 24 bits
abbrev pub widened : ℤ → ℤ
widened z = z *ℤ pos 256

-- a 24-bit sample in 16 bits, rounded down
abbrev pub narrowed : ℤ → ℤ
narrowed z = int_div_euclid z (pos 256)
