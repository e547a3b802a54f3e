-- A file that is read gives its bytes, or the answer that there is no such file.
-- A failure and want of memory say nothing of the file.
-- "The outside" in docs/rules.md.
use Rattle.std.specs.Prelude.{ℕ, Bool, true, false, List, Option, Some, None, ⊤}
use Rattle.sl_ports.specs.Files.{Files, Holds}
use Rattle.sl_ports.specs.declared.keepers.FileAnswer.{FileAnswer}
use Rattle.sl_ports.specs.declared.keepers.FileAnswer.TheVariants.{Bytes, Missing, Failed, Memory}

-- the answer is a failure
abbrev pub is_failed : FileAnswer → Bool
is_failed (Bytes _) = false
is_failed Missing = false
is_failed Failed = true
is_failed Memory = false

-- what an answer says of the file under the name
abbrev pub Reads : Option Files → List ℕ → FileAnswer → Type 0
Reads files name (Bytes v) = Holds files name (Some v.items)
Reads files name Missing = Holds files name None
Reads files name Failed = ⊤
Reads files name Memory = ⊤
