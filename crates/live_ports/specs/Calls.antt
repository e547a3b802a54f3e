-- The calls of one kind on an end in memory are numbered from 1. Those whose numbers are listed
-- fail, and of the others those that are listed for it give nothing for now.
-- "The outside" in docs/rules.md.
use Rattle.std.specs.Prelude.{ℕ, Bool, List, ◌==◌, if◌then◌else◌}
use Rattle.std.specs.List.{list_any}
use Rattle.sl_base.specs.Counting.{raised}
use Rattle.live_ports.specs.declared.calls.Due.{Due}
use Rattle.live_ports.specs.declared.calls.Due.TheVariants.{Failure, Nothing, Success}

-- the numbers of the calls that are to fail and of those that are to give nothing, how many were
-- made, and how many of each kind came
pub record Tally : Type 0 where
  pub failing : List ℕ
  pub idling : List ℕ
  pub made : ℕ
  pub faults : ℕ
  pub idles : ℕ

-- none was made yet
abbrev pub untried : List ℕ → List ℕ → Tally
untried failing idling =
    record { failing = failing; idling = idling; made = 0; faults = 0; idles = 0 }

-- the next call's number is listed
abbrev pub is_next : ℕ → List ℕ → Bool
is_next made listed = list_any (λ number. number == raised made) listed

-- what the next call is to come to
abbrev pub due : Tally → Due
due calls =
    if is_next calls.made calls.failing then Failure
    else (if is_next calls.made calls.idling then Nothing else Success)

-- after one more call, which came to this
abbrev pub counted : Tally → Due → Tally
counted calls Failure = record calls { made = raised calls.made; faults = raised calls.faults }
counted calls Nothing = record calls { made = raised calls.made; idles = raised calls.idles }
counted calls Success = record calls { made = raised calls.made }

-- after a call that was to succeed, and failed for want of memory
abbrev pub failed_too : Tally → Tally
failed_too calls = record calls { faults = raised calls.faults }
