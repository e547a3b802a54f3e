-- A sink takes bytes and puts them behind those that it holds.
-- A write that is done appended all of its bytes, and one that failed appended a prefix of them,
-- maybe none or all. What a sink holds may be untold: then nothing is said of it.
-- "The outside" in docs/rules.md.
use Rattle.std.specs.Prelude.{◌≡◌, ◌⊎◌, ℕ, Bool, true, false, List, Option, ◌++◌}
use Rattle.std.specs.Io.KnownBytes.{Appends}
use Rattle.sl_base.specs.Counting.{Rose}
use Rattle.sl_ports.specs.declared.sinks.SinkAnswer.{SinkAnswer}
use Rattle.sl_ports.specs.declared.sinks.SinkAnswer.TheVariants.{Done, Failed}

-- the answer is a failure
abbrev pub is_failed : SinkAnswer → Bool
is_failed Done = false
is_failed Failed = true

-- what the sink holds grew by a prefix of bytes
pub record AppendsPrefix (old new : Option (List ℕ)) (bytes : List ℕ) : Type 0 where
  pub part : List ℕ
  pub rest : List ℕ
  pub whole : bytes ≡ part ++ rest
  pub appended : Appends old new part

-- what a write with this answer did to what the sink holds
abbrev pub Writes : Option (List ℕ) → Option (List ℕ) → List ℕ → SinkAnswer → Type 0
Writes old new bytes Done = Appends old new bytes
Writes old new bytes Failed = AppendsPrefix old new bytes

-- the whole text was told, or a prefix of it, and then only where the count of faults rose
abbrev pub Tells : ℕ → ℕ → Option (List ℕ) → Option (List ℕ) → List ℕ → Type 0
Tells before now old new text = Appends old new text
    ⊎ (Rose before now × AppendsPrefix old new text)
