-- Files by name. A keeper of files has at most one file under each name, and a file is its bytes.
-- To write a file gives it exactly these bytes, whether it was there or not, and leaves the other
-- files as they are. What a keeper has may be untold: then nothing is said of it.
-- "The outside" in docs/rules.md.
use Rattle.std.specs.Prelude.{◌≡◌, ℕ, List, Option, Some, None, if◌then◌else◌, ⊤}
use Rattle.std.specs.Option.{option_map}
use Rattle.std.specs.Str.{bytes_eq}

-- the bytes of the file under a name, or None where there is no such file
abbrev pub Files : Type 0
Files = List ℕ → Option (List ℕ)

-- the files after one was written
abbrev pub put : Files → List ℕ → List ℕ → Files
put files name bytes = λ other. if bytes_eq name other then Some bytes else files other

-- the same of files that may be untold
abbrev pub put_told : Option Files → List ℕ → List ℕ → Option Files
put_told files name bytes = option_map (λ told. put told name bytes) files

-- where the files are told, this is the file under the name, or None for no file
abbrev pub Holds : Option Files → List ℕ → Option (List ℕ) → Type 0
Holds None name file = ⊤
Holds (Some files) name file = files name ≡ file
