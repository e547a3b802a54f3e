-- Entries of frames behind the last apply behind it, as at the frame behind the last.
-- "The run" in docs/rules.md.
use Rattle.std.specs.Prelude.{ℕ, min, List, map}
use Rattle.sl_commands.specs.declared.Entry.{Entry}

-- the entry at its frame, or at the frame behind the last of so many
abbrev pub clipped : ℕ → Entry → Entry
clipped count e = record e { frame = min e.frame count }

-- all entries so
abbrev pub all_clipped : ℕ → List Entry → List Entry
all_clipped count es = map (clipped count) es
