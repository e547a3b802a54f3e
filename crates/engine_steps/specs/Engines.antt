-- An engine is a looper with its journal, the number of frames done, and the saves that no release
-- has answered: those whose blocks were all sent, which are due to be answered, and behind them
-- those whose blocks are still sent, in the order in which they were made. Of the first of these
-- some blocks were sent.
-- It takes a command by stamping it and applying it at once; it plays frames with no entry among
-- them; and it sends one block after another. A release must not answer a save whose blocks weren't
-- all sent.
-- "Entries and replies" and "Saves" in docs/rules.md.
use Rattle.std.specs.Prelude.{◌≡◌, ℕ, ◌+◌, ◌==◌, Bool, true, false, List, [], ◌∷◌, ◌++◌, length, drop, Option, Some, None, option_map, option_to_list, if◌then◌else◌}
use Rattle.sl_base.specs.Sounds.{Sound}
use Rattle.sl_commands.specs.declared.Target.{Target}
use Rattle.sl_commands.specs.declared.Block.{Block}
use Rattle.sl_commands.specs.declared.Command.{Command}
use Rattle.sl_commands.specs.declared.Entry.{Entry}
use Rattle.sl_commands.specs.Settings.{LooperSettings}
use Rattle.looper_rules.specs.Looper.{Looper}
use Rattle.looper_rules.specs.Saves.{Save}
use Rattle.looper_rules.specs.Entries.{is_taken, applied, save}
use Rattle.looper_rules.specs.Run.{begun, start}
use Rattle.looper_rules.specs.Unanswered.{still_unanswered}
use Rattle.looper_rules.specs.SaveBlocks.{blocks_of_save, blocks_for_all}
use Rattle.frame_stamp.specs.Journals.{JournalOf, next_entry}

-- what contracts see of an engine
pub record EngineOf : Type 0 where
  pub looper : Looper
  pub journal : JournalOf
  pub frames : ℕ
  pub due : List Save
  pub sending : List Save
  pub part : ℕ

-- the saves that no release has answered, oldest first
abbrev pub waiting : EngineOf → List Save
waiting e = e.due ++ e.sending

-- the blocks that are still to be sent
abbrev pub left : EngineOf → List Block
left e = drop e.part (blocks_for_all e.sending)

-- the first of some
abbrev pub first_of : {A : Type 0} → List A → Option A
first_of [] = None
first_of (x ∷ xs) = Some x

-- the block that is sent next
abbrev pub next_block : EngineOf → Option Block
next_block e = first_of (left e)

-- the target of a save
abbrev pub target_of : Save → Target
target_of s = s.target

-- the target of the oldest unanswered save, once its blocks were all sent
abbrev pub due_target : EngineOf → Option Target
due_target e = option_map target_of (first_of e.due)

-- those of these saves that an entry leaves unanswered
abbrev pub left_unanswered : Entry → Looper → List Save → List Save
left_unanswered en l saves = if is_taken en l then still_unanswered en.command saves else saves

-- an entry answers no save whose blocks weren't all sent
pub record ClearsSent (en : Entry) (e : EngineOf) : Type 0 where
  pub kept : left_unanswered en e.looper e.sending ≡ e.sending

-- the entry that an engine stamps next
abbrev pub entry_of : ℕ → Command → EngineOf → Entry
entry_of sender command e = next_entry e.frames sender command e.journal.entries

-- an engine that took an entry
abbrev pub took : Entry → EngineOf → EngineOf
took en e =
    record e {
      looper = applied e.frames en e.looper;
      journal = record e.journal { entries = e.journal.entries ++ en ∷ [] };
      due = left_unanswered en e.looper e.due;
      sending = e.sending ++ option_to_list (save en e.looper);
    }

-- an engine that played some frames, and what it put out
abbrev pub went_on : List Sound → EngineOf → EngineOf
went_on xs e = record e {
  looper = (begun e.frames [] xs e.looper).looper;
  frames =
      e.frames + length xs;
}

abbrev pub put_out : List Sound → EngineOf → List Sound
put_out xs e = (begun e.frames [] xs e.looper).output

-- an engine of which one more block was sent: that of the first save, by whether it was its last
abbrev pub sent_of : Bool → Save → List Save → EngineOf → EngineOf
sent_of true s saves e = record e { due = e.due ++ s ∷ []; sending = saves; part = 0 }
sent_of false s saves e = record e { part = e.part + 1 }

abbrev pub sent_from : List Save → EngineOf → EngineOf
sent_from [] e = e
sent_from (s ∷ saves) e = sent_of (e.part + 1 == length (blocks_of_save s)) s saves e

abbrev pub block_sent : EngineOf → EngineOf
block_sent e = sent_from e.sending e

-- with what an engine begins
pub record Beginning : Type 0 where
  pub settings : LooperSettings
  pub chunks : ℕ
  pub initial : List (List Sound)
  pub quota : ℕ

-- the looper that it begins with
abbrev pub first_looper : Beginning → Looper
first_looper b = start b.settings b.chunks b.initial

-- an engine before all frames and entries
abbrev pub first_engine : Beginning → EngineOf
first_engine b =
    record {
      looper = first_looper b;
      journal = record { entries = []; quota = b.quota };
      frames = 0;
      due = [];
      sending = [];
      part = 0;
    }
