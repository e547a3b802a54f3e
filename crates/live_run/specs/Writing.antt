-- Where it is asked for, the journal is written under its name behind the files of all saves. It
-- isn't where its write failed, and then the keeper's count of writes rose, or where there was no
-- memory.
-- "How a session ends" in docs/rules.md.
use Rattle.std.specs.Prelude.{◌≡◌, ℕ, List, Option, Some, None}
use Rattle.sl_base.specs.Counting.{Rose}
use Rattle.sl_commands.specs.declared.entry.Entry.{Entry}
use Rattle.sl_ports.specs.Files.{put_told}
use Rattle.sl_ports.specs.declared.keepers.Keeper.{Ghosts as Keeper}
use Rattle.journal_text.specs.Journals.{journal_text}
use Rattle.live_core.specs.declared.status.LiveStatus.{LiveStatus}
use Rattle.live_core.specs.declared.status.LiveStatus.TheVariants.{Done, ReadFault, WriteFault, Torn, LinkFault, Memory, LongInput}

-- what the write of a text leaves, by how it ended
abbrev pub WritesBy : {P : Type 0} → Keeper P → List ℕ → List ℕ → P → P → LiveStatus → Type 0
WritesBy k name text old new Done = (k.files new ≡ put_told (k.files old) name text)
    × (k.write_faults new ≡ k.write_faults old)
WritesBy k name text old new WriteFault = (k.files new ≡ k.files old)
    × Rose (k.write_faults old) (k.write_faults new)
WritesBy k name text old new Memory = (k.files new ≡ k.files old)
    × (k.write_faults new ≡ k.write_faults old)
WritesBy k name text old new ReadFault = ⊥
WritesBy k name text old new Torn = ⊥
WritesBy k name text old new LinkFault = ⊥
WritesBy k name text old new LongInput = ⊥

-- the journal of these entries was written under the name, or why it wasn't
pub record WritesText {P : Type 0} (k : Keeper P) (name : List ℕ) (entries : List Entry)
    (old new : P) (ended : LiveStatus) : Type 0 where
  pub writes : WritesBy k name (journal_text entries) old new ended
  pub reads : k.read_faults new ≡ k.read_faults old

-- the same where a name is given; else nothing was written
abbrev pub WritesJournal : {P : Type 0} → Keeper P → Option (List ℕ) → List Entry → P → P →
    LiveStatus → Type 0
WritesJournal k None entries old new ended = (new ≡ old) × (ended ≡ Done)
WritesJournal k (Some name) entries old new ended = WritesText k name entries old new ended
