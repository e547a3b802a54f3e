-- The calls of one kind on a memory end are numbered from 1. Those whose numbers are listed fail.
-- A call that fails raises the count of faults, whether its number is listed or memory is refused
-- to a sink.
-- "The outside" in docs/rules.md.
use Rattle.std.specs.Prelude.{ℕ, Bool, List, ◌==◌, if◌then◌else◌}
use Rattle.std.specs.List.{list_any}
use Rattle.sl_base.specs.Counting.{raised}

-- the numbers of the calls that are to fail, how many were made and how many failed
pub record Tally : Type 0 where
  pub failing : List ℕ
  pub made : ℕ
  pub faults : ℕ

-- none was made yet
abbrev pub untried : List ℕ → Tally
untried failing = record { failing = failing; made = 0; faults = 0 }

-- the next call is to fail
abbrev pub is_to_fail : Tally → Bool
is_to_fail calls = list_any (λ number. number == raised calls.made) calls.failing

-- after one more call, which failed or not
abbrev pub counted : Tally → Bool → Tally
counted calls failed =
    record {
      failing = calls.failing;
      made = raised calls.made;
      faults = if failed then
          raised calls.faults else calls.faults;
    }
