-- A journal has a quota: each of the senders 0 and 1 may have that many entries, and sender 2,
-- which answers saves, twice as many. The next entry of a sender has the number of entries that
-- this sender has.
-- "Entries" in docs/rules.md.
use Rattle.std.specs.Prelude.{◌≡◌, ◌≤◌, ◌<◌, ℕ, zero, suc, ◌+◌, ◌*◌, List, length, get_or, IsTrue}
use Rattle.sl_base.specs.Limits.{max_quota}
use Rattle.sl_commands.specs.declared.Command.{Command}
use Rattle.sl_commands.specs.declared.Entry.{Entry}
use Rattle.sl_commands.specs.Entries.{entries_of, are_stamped}

-- what contracts see of a journal
pub record JournalOf : Type 0 where
  pub entries : List Entry
  pub quota : ℕ

-- the number of entries that a sender may have
abbrev pub room_of : ℕ → ℕ → ℕ
room_of zero quota = quota
room_of (suc zero) quota = quota
room_of (suc (suc zero)) quota = 2 * quota
room_of (suc (suc (suc sender))) quota = 0

-- the number of a sender's next entry
abbrev pub next_seq : ℕ → List Entry → ℕ
next_seq sender es = length (entries_of sender es)

-- the entry that is stamped next
abbrev pub next_entry : ℕ → ℕ → Command → List Entry → Entry
next_entry frame sender command es =
    record {
      frame = frame;
      sender = sender;
      seq = next_seq sender es;
      command = command;
    }

-- a sender has room for one more entry
abbrev pub HasRoom : ℕ → JournalOf → Type 0
HasRoom sender j = next_seq sender j.entries < room_of sender j.quota

-- what a journal's fields keep; the counts are those of the three senders
pub record IsJournal (es : List Entry) (quota capacity : ℕ) (counts : List ℕ) : Type 0 where
  pub stamped : IsTrue (are_stamped es)
  pub reserved : 4 * quota ≤ capacity
  pub small : quota ≤ max_quota
  pub seqs : (sender : ℕ) → sender < 3 → get_or counts sender 0 ≡ next_seq sender es
  pub within : (sender : ℕ) → next_seq sender es ≤ room_of sender quota
  pub all : length es ≡ get_or counts 0 0 + get_or counts 1 0 + get_or counts 2 0
