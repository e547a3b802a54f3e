-- A world makes its own input from its number: frame f has on the left f times 7919 and the number,
-- modulo 20001, less 10000, and on the right the negative of it.
-- "The world on one thread" in docs/rules.md.
use Rattle.std.specs.Prelude.{ℕ, zero, suc, ◌+◌, ◌*◌, ◌%◌, ℤ, pos, ◌-ℤ◌, neg_ℤ, List, [], ◌∷◌}
use Rattle.sl_base.specs.Sounds.{Sound}

-- the left side of a frame
abbrev pub left_at : ℕ → ℕ → ℤ
left_at number frame = pos ((frame * 7919 + number) % 20001) -ℤ pos 10000

-- a frame
abbrev pub input_at : ℕ → ℕ → Sound
input_at number frame = record {
  left = left_at number frame;
  right = neg_ℤ (left_at number frame);
}

-- so many frames from this one on
abbrev pub input_from : ℕ → ℕ → ℕ → List Sound
input_from number frame zero = []
input_from number frame (suc more) = input_at number frame ∷ input_from number (frame + 1) more
