-- The system reads and writes in parts, as many bytes as it likes. Whole files and texts are moved
-- part by part. Where a reader tells what it has left, a file that was read whole is just that.
-- "The outside" in docs/rules.md.
use Rattle.std.specs.Prelude.{◌≡◌, ℕ, List, Option, IfSome}

-- these are all the bytes that the reader had left
abbrev pub ReadsWhole : Option (List ℕ) → List ℕ → Type 0
ReadsWhole left bytes = IfSome left (λ all. bytes ≡ all)
