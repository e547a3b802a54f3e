-- While a journal is read, the entries so far are kept with the frame of the last one and with how
-- many each sender has.
-- "Journal" in docs/formats.md.
use Rattle.std.specs.Prelude.{◌≡◌, ◌≤◌, List, length, slice_index}
use Rattle.sl_commands.specs.declared.entry.Entry.{Entry}
use Rattle.sl_commands.specs.Entries.{last_frame, entries_of}
use Rattle.journal_text.specs.Journals.{max_lines}
use Rattle.journal_text.specs.declared.so_far.SoFar.TheInside.{Inside}

-- the entries so far
abbrev pub entries_so_far : Inside → List Entry
entries_so_far s = s.entries

-- what is kept beside them is theirs
pub record IsSoFar (s : Inside) : Type 0 where
  pub room : length s.entries ≤ max_lines
  pub last : s.last ≡ last_frame s.entries
  pub osc : slice_index s.counts 0 ≡ length (entries_of 0 s.entries)
  pub midi : slice_index s.counts 1 ≡ length (entries_of 1 s.entries)
  pub saver : slice_index s.counts 2 ≡ length (entries_of 2 s.entries)
