-- A count of failures, as of faults or of rings that were full, never falls. It rises in each call
-- of its kind that fails, and in no other call. At the last value of its type it stands still.
-- "Counts of failures" in docs/rules.md.
use Rattle.std.specs.Prelude.{◌≡◌, ℕ, ◌+◌, ◌-◌, ◌^◌, ◌≤◌, min, max, Bool, IsTrue, IsFalse}

-- the last value of a count
abbrev pub last_count : ℕ
last_count = 2 ^ 64 - 1

-- a count after one more; at its last value it stands still
abbrev pub raised : ℕ → ℕ
raised count = max count (min (count + 1) last_count)

-- the count rose from before to now, or stands at its last value
abbrev pub Rose : ℕ → ℕ → Type 0
Rose before now = min (before + 1) last_count ≤ now

-- the count rose by so much at least, or stands at its last value
abbrev pub RoseBy : ℕ → ℕ → ℕ → Type 0
RoseBy times before now = min (before + times) last_count ≤ now

-- what a call that failed or not did to its count
pub record Counts (before now : ℕ) (failed : Bool) : Type 0 where
  pub later : before ≤ now
  pub rose : IsTrue failed → Rose before now
  pub stayed : IsFalse failed → now ≡ before
