-- What may happen to a stack between two calls: openings, writes, extensions, closings, removals,
-- undo and redo, and the end of a streak. Between an opening and its closing a list may also be
-- pinned and released.
-- "Writing", "History: undo and redo" and "The stack" in docs/rules.md.
use Rattle.std.specs.Prelude.{ℕ, Bool, Option}
use Rattle.sl_base.specs.Sounds.{Sound}
use Rattle.sl_commands.specs.declared.How.{How}
use Rattle.looper_rules.specs.Stack.{Stack, streak_broken}
use Rattle.looper_rules.specs.Opening.{opened}
use Rattle.looper_rules.specs.Writing.{written, extended}
use Rattle.looper_rules.specs.Closing.{finished, dropped}
use Rattle.looper_rules.specs.History.{undone, redone}
use Rattle.looper_rules.specs.Saves.{pinned, unpinned}

-- the open layer of the first stack was written and extended on the way to the second
pub data AreWrites (s : Stack Sound) : Stack Sound → Type 0 where
  no_write : AreWrites s s
  wrote : (how : How) → (place : ℕ) → (x : Sound) → (t : Stack Sound) → AreWrites s t →
      AreWrites s (written how place x t)
  went_on : (t : Stack Sound) → AreWrites s t → AreWrites s (extended t)
  broke : (t : Stack Sound) → AreWrites s t → AreWrites s (streak_broken t)
  held : (t : Stack Sound) → AreWrites s t → AreWrites s (pinned t)
  let_go : (t : Stack Sound) → AreWrites s t → AreWrites s (unpinned t)

-- anything but pins and releases happened on the way from the first stack to the second
pub data AreChanges (s : Stack Sound) : Stack Sound → Type 0 where
  no_change : AreChanges s s
  opens : (empty : Bool) → (t : Stack Sound) → AreChanges s t → AreChanges s (opened empty t)
  writes : (how : How) → (place : ℕ) → (x : Sound) → (t : Stack Sound) → AreChanges s t →
      AreChanges s (written how place x t)
  extends : (t : Stack Sound) → AreChanges s t → AreChanges s (extended t)
  breaks : (t : Stack Sound) → AreChanges s t → AreChanges s (streak_broken t)
  finishes : (cut : Option ℕ) → (t : Stack Sound) → AreChanges s t → AreChanges s (finished cut t)
  drops : (t : Stack Sound) → AreChanges s t → AreChanges s (dropped t)
  undoes : (t : Stack Sound) → AreChanges s t → AreChanges s (undone t)
  redoes : (t : Stack Sound) → AreChanges s t → AreChanges s (redone t)
