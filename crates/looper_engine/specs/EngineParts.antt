-- The fields of an engine make an engine of the rules: its saves have the lists that the pins hold.
-- It keeps what always holds of a looper, the pins that stand are those of its saves, and these are
-- of different loops. No entry is later than the frames that are done, and each save was asked for
-- by an entry of the senders 0 and 1.
-- "States: what always holds" and "Saves" in docs/rules.md.
use Rattle.std.specs.Prelude.{◌≤◌, ℕ, ◌+◌}
use Rattle.sl_base.specs.Limits.{max_session_frames}
use Rattle.sl_commands.specs.Entries.{last_frame}
use Rattle.frame_stamp.specs.Journals.{JournalOf, next_seq}
use Rattle.looper_rules.specs.Looper.{Looper}
use Rattle.looper_rules.specs.Unanswered.{holds_of, HoldPins}
use Rattle.looper_rules.specs.Reached.{KeepsLooper}
use Rattle.run_laws.specs.Apart.{AreAllApart}
use Rattle.engine_steps.specs.Engines.{EngineOf, waiting}
use Rattle.engine_steps.specs.InStep.{IsPart}
use Rattle.looper_engine.specs.Queues.{QueueOf}
use Rattle.looper_engine.specs.Holding.{held_saves}

-- the engine of these fields
abbrev pub engine_of : Looper → JournalOf → ℕ → QueueOf → EngineOf
engine_of l journal frames q =
    record {
      looper = l;
      journal = journal;
      frames = frames;
      due = held_saves l q.due;
      sending = held_saves l q.sending;
      part = q.part;
    }

-- what an engine keeps
pub record IsEngine (e : EngineOf) : Type 0 where
  pub kept : KeepsLooper e.frames e.looper
  pub held : HoldPins (waiting e) (holds_of e.looper)
  pub apart : AreAllApart (waiting e)
  pub part : IsPart e.sending e.part
  pub before : last_frame e.journal.entries ≤ e.frames
  pub asked : e.looper.saves ≤ next_seq 0 e.journal.entries + next_seq 1 e.journal.entries
  pub within : e.frames ≤ max_session_frames
