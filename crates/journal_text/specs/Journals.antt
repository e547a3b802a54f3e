-- A journal is `looper journal 1`, the lines of its entries and `end`.
-- Its entries are valid for the number of loops, none acts behind the last frame of a session, they
-- are stamped, and no sender has more than may be asked of it. There are at most 4194304 lines.
-- A line may stand where its entry is so, behind those before it. Where it may not, what is wrong
-- is the first of these: it is one line too many, it has no form, it is the line of no valid entry,
-- the entry is out of order, it is one too many of its sender.
-- "Journal" in docs/formats.md.
use Rattle.std.specs.Prelude.{ℕ, ◌≡◌, ◌≢◌, ◌≤◌, ◌<◌, ◌^◌, ◌==◌, IsTrue, IsFalse, if◌then◌else◌, List, length, codes, ⊤}
use Rattle.std.specs.List.{AllByRecursion}
use Rattle.sl_base.specs.Limits.{max_session_frames, max_quota, max_saver_quota}
use Rattle.sl_commands.specs.declared.entry.Entry.{Entry}
use Rattle.sl_commands.specs.declared.fault.TextKind.{TextKind}
use Rattle.sl_commands.specs.declared.fault.TextKind.TheVariants.{Form, Value, Order, TooMany}
use Rattle.sl_commands.specs.Entries.{is_valid, are_stamped, may_be_next, entries_of}
use Rattle.text_lines.specs.Lines.{words_in, text_of}
use Rattle.text_lines.specs.FirstFaults.{TextForm}
use Rattle.journal_text.specs.JournalLines.{entry_line, is_form}

-- the first line
abbrev pub journal_header : List ℕ
journal_header = codes "looper journal 1"

-- the text of entries
abbrev pub journal_text : List Entry → List ℕ
journal_text entries = text_of journal_header entry_line entries

-- the most entries of a sender
abbrev pub most_of : ℕ → ℕ
most_of sender = if sender == 2 then max_saver_quota else max_quota

-- the most lines of entries
abbrev pub max_lines : ℕ
max_lines = 4194304

-- an entry has a line, where there are so many loops
pub record HasLine (loops : ℕ) (e : Entry) : Type 0 where
  pub valid : IsTrue (is_valid loops e)
  pub frame : e.frame ≤ max_session_frames
  pub number : e.seq < 2 ^ 32

-- its line may stand behind those of these
pub record MayStand (loops : ℕ) (before : List Entry) (e : Entry) : Type 0 where
  pub room : length before < max_lines
  pub line : HasLine loops e
  pub next : IsTrue (may_be_next before e)
  pub few : length (entries_of e.sender before) < most_of e.sender

-- the line has no form, or it has one and is the line of no entry
abbrev pub HasNoEntry : ℕ → List ℕ → TextKind → Type 0
HasNoEntry loops line Form = IsFalse (is_form (words_in line))
HasNoEntry loops line Value = IsTrue (is_form (words_in line))
    × ((e : Entry) → HasLine loops e → line ≢ entry_line e)
HasNoEntry loops line _ = ⊥

-- the entry is out of order, or it is one too many of its sender
abbrev pub CannotFollow : List Entry → Entry → TextKind → Type 0
CannotFollow before e Order = IsFalse (may_be_next before e)
CannotFollow before e TooMany = IsTrue (may_be_next before e)
    × (most_of e.sender ≤ length (entries_of e.sender before))
CannotFollow before e _ = ⊥

-- what is wrong with a line behind those of these
pub data IsWrong (loops : ℕ) (before : List Entry) (line : List ℕ) (kind : TextKind) : Type 0 where
  -- it is one line too many
  one_too_many : max_lines ≤ length before → kind ≡ TooMany → IsWrong loops before line kind
  -- it has no form, or is the line of no entry
  no_entry : length before < max_lines → HasNoEntry loops line kind → IsWrong loops before line kind
  -- its entry may not follow
  no_place : length before < max_lines → (e : Entry) → HasLine loops e → line ≡ entry_line e →
      CannotFollow before e kind → IsWrong loops before line kind

-- journals as a form of text: `end` may stand behind any entry
abbrev pub journal_form : ℕ → TextForm Entry
journal_form loops =
    record {
      header = journal_header;
      spell = entry_line;
      Next = MayStand loops;
      Due = λ before. ⊤;
      Wrong = IsWrong loops;
    }

-- the entries are those of a journal, for so many loops
pub record AreOfJournal (loops : ℕ) (entries : List Entry) : Type 0 where
  pub valid : AllByRecursion (λ e. IsTrue (is_valid loops e)) entries
  pub frames : AllByRecursion (λ e. e.frame ≤ max_session_frames) entries
  pub stamped : IsTrue (are_stamped entries)
  pub few : (sender : ℕ) → length (entries_of sender entries) ≤ most_of sender

-- the bytes are the journal of these entries, for so many loops
pub record IsJournal (loops : ℕ) (bytes : List ℕ) (entries : List Entry) : Type 0 where
  pub whole : AreOfJournal loops entries
  pub spelled : bytes ≡ journal_text entries
