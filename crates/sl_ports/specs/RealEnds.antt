-- A real end keeps its counts of faults and tells nothing of what it holds.
-- "The outside" in docs/rules.md.
use Rattle.std.specs.Prelude.{ℕ}

-- the counts of faults of a keeper of real files
pub record FaultCounts : Type 0 where
  pub reads : ℕ
  pub writes : ℕ
