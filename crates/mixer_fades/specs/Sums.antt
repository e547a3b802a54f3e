-- A sum of scaled frames may be greater than a frame. So many frames more make it greater by at
-- most as many times the greatest sample.
-- "Gains and the mix" in docs/rules.md.
use Rattle.std.specs.Prelude.{◌≤◌, ℕ, ◌*◌, List, unsigned_abs}
use Rattle.std.specs.List.{AllByRecursion}
use Rattle.sl_base.specs.Sounds.{Sound}

-- both sides of a sum are at most so far from zero
pub record IsWithin (bound : ℕ) (sum : Sound) : Type 0 where
  pub left : unsigned_abs sum.left ≤ bound
  pub right : unsigned_abs sum.right ≤ bound

-- each of the sums is that of so many frames at most
abbrev pub AreSumsOf : ℕ → List Sound → Type 0
AreSumsOf givers sums = AllByRecursion (IsWithin (givers * 8388608)) sums
