-- A memory sink holds the bytes that were written, and a memory keeper the files, oldest first.
-- Of the files that were written under one name the last counts. A write that isn't done leaves all
-- as it was.
-- "The outside" in docs/rules.md.
use Rattle.std.specs.Prelude.{◌≡◌, ℕ, List, ⊤, [], ◌∷◌, ◌++◌, reverse}
use Rattle.std.specs.Option.{option_map}
use Rattle.std.specs.List.{find}
use Rattle.std.specs.Str.{bytes_eq}
use Rattle.sl_ports.specs.Calls.{Tally}
use Rattle.sl_ports.specs.Files.{Files}
use Rattle.sl_ports.specs.declared.sinks.SinkAnswer.{SinkAnswer}
use Rattle.sl_ports.specs.declared.sinks.SinkAnswer.TheVariants.{Done, Failed}
use Rattle.sl_ports.specs.declared.keepers.FileAnswer.{FileAnswer}
use Rattle.sl_ports.specs.declared.keepers.FileAnswer.TheVariants.{Bytes, Missing, Failed as Unread, Memory as Lacking}
use Rattle.sl_ports.specs.declared.keepers.KeepAnswer.{KeepAnswer}
use Rattle.sl_ports.specs.declared.keepers.KeepAnswer.TheVariants.{Done as Kept, Failed as Refused, Memory}

-- what a memory sink holds, and the calls made on it
pub record SinkState : Type 0 where
  pub bytes : List ℕ
  pub calls : Tally

-- one file as it was written
pub record File : Type 0 where
  pub name : List ℕ
  pub bytes : List ℕ

-- the files as they were written, and the calls made on their keeper
pub record KeeperState : Type 0 where
  pub written : List File
  pub reads : Tally
  pub writes : Tally

-- the files by name
abbrev pub files_of : List File → Files
files_of written name =
    option_map (λ file. file.bytes) (find (λ file. bytes_eq file.name name) (reverse written))

-- the files that a keeper in memory holds, by name
abbrev pub files_in : KeeperState → Files
files_in keeper = files_of keeper.written

-- the bytes held after a write with this answer
abbrev pub bytes_after : List ℕ → List ℕ → SinkAnswer → List ℕ
bytes_after held bytes Done = held ++ bytes
bytes_after held bytes Failed = held

-- the files written after a write with this answer
abbrev pub written_after : List File → File → KeepAnswer → List File
written_after written file Kept = written ++ file ∷ []
written_after written file Refused = written
written_after written file Memory = written

-- the answer has these bytes, or memory was refused
abbrev pub IsCopy : List ℕ → FileAnswer → Type 0
IsCopy bytes (Bytes v) = v.items ≡ bytes
IsCopy bytes Missing = ⊥
IsCopy bytes Unread = ⊥
IsCopy bytes Lacking = ⊤
