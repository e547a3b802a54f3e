-- A run has the least quota, 1 or more, with which its journal has room for all entries: as many as
-- each of the senders 0 and 1 has, and half as many as sender 2 has, rounded up.
-- "Entries" in docs/rules.md.
use Rattle.std.specs.Prelude.{◌≤◌, ℕ, List}
use Rattle.sl_commands.specs.declared.Entry.{Entry}
use Rattle.journal_run.specs.Performing.{HasRoomFor}

-- the quota has room for the entries, and no less quota has
pub record IsQuotaOf (es : List Entry) (quota : ℕ) : Type 0 where
  pub some : 1 ≤ quota
  pub room : HasRoomFor quota es
  pub least : (other : ℕ) → 1 ≤ other → HasRoomFor other es → quota ≤ other
