-- A file that is written has exactly the bytes given. A failure and want of memory leave every file
-- as it was.
-- "The outside" in docs/rules.md.
use Rattle.std.specs.Prelude.{ℕ, Bool, true, false, List, Option}
use Rattle.sl_ports.specs.Files.{Files, put_told}
use Rattle.sl_ports.specs.declared.keepers.KeepAnswer.{KeepAnswer}
use Rattle.sl_ports.specs.declared.keepers.KeepAnswer.TheVariants.{Done, Failed, Memory}

-- the answer is a failure
abbrev pub is_failed : KeepAnswer → Bool
is_failed Done = false
is_failed Failed = true
is_failed Memory = false

-- the files after a write with this answer
abbrev pub kept : Option Files → List ℕ → List ℕ → KeepAnswer → Option Files
kept files name bytes Done = put_told files name bytes
kept files name bytes Failed = files
kept files name bytes Memory = files
